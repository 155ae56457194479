-- What is known of a capture as plain data.
use Rattle.std.proofs.Common.{inl, inr}
use Rattle.std.specs.Prelude.{◌≡◌, ◌⊎◌, refl}
use Rattle.std.specs.Coded.{Coded, code_by, coded×, coded⊎, coded_ℕ, coded_list}
use Rattle.ig_frame.specs.contracts.frames.Frames as frames
use Rattle.ig_capture.specs.contracts.phase.Phase as phase
use Rattle.ig_capture.specs.contracts.field.Field as field
use Rattle.ig_capture.specs.contracts.fault.CaptureFault as fault
use Rattle.ig_capture.specs.declared.fault.CaptureFault.{CaptureFault}
use Rattle.ig_capture.specs.Requests.{coded_unanswered}
use Rattle.ig_capture.specs.Talks.{Talk}
use Rattle.ig_capture.specs.Sessions.{Session}
use Rattle.ig_capture.specs.Reading.{Reading, State, Going, Stopped}

abbrev pub coded_talk : Coded Talk
coded_talk =
    code_by _ (coded× phase.the_row.coded coded_unanswered) (λ t. (t.phase, t.unanswered))
    (λ p. record { phase = p.0; unanswered = p.1 }) (λ _. refl)

abbrev pub coded_session : Coded Session
coded_session =
    code_by _ (coded× frames.the_row.coded (coded× frames.the_row.coded coded_talk))
    (λ s. (s.from_client, (s.from_server, s.talk)))
    (λ p. record { from_client = p.0; from_server = p.1.0; talk = p.1.1 }) (λ _. refl)

abbrev pub coded_reading : Coded Reading
coded_reading =
    code_by _ (coded× field.the_row.coded (coded× coded_ℕ (coded× (coded_list coded_ℕ) (coded_list coded_session))))
    (λ r. (r.field, (r.place, (r.came, r.sessions))))
    (λ p. record { field = p.0; place = p.1.0; came = p.1.1.0; sessions = p.1.1.1 }) (λ _. refl)

-- a state is a reading, or a fault
abbrev pub state_parts : State → Reading ⊎ CaptureFault
state_parts (Going r) = inl r
state_parts (Stopped why) = inr why

abbrev pub state_of_parts : Reading ⊎ CaptureFault → State
state_of_parts (inl r) = Going r
state_of_parts (inr why) = Stopped why

abbrev pub parts_again : (s : State) → state_of_parts (state_parts s) ≡ s
parts_again (Going r) = refl
parts_again (Stopped why) = refl

abbrev pub coded_state : Coded State
coded_state = code_by _ (coded⊎ coded_reading fault.the_row.coded) state_parts state_of_parts parts_again
