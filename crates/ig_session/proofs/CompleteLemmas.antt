-- A session whose input is whole frames to its end ends well.
use Rattle.std.proofs.Common.{◌≡◌, ◌∙◌, inl, inr, ℕ, true, false, List, [], refl, sym, subst, arith}
use Rattle.ig_base.specs.declared.entry.Entry.{Entry}
use Rattle.ig_base.specs.Frames.{client, max_body, least_after, Begins, Cut, HasNoFrame}
use Rattle.ig_base.proofs.FrameLemmas.{front-short, same_cut}
use Rattle.ig_link.specs.States.{SourceState, SinkState}
use Rattle.ig_caches.specs.declared.call.Call.{Call}
use Rattle.ig_caches.specs.declared.answer.Answer.{Answer}
use Rattle.ig_deals.specs.declared.cfg.SessionCfg.{SessionCfg}
use Rattle.ig_deals.specs.declared.end.SessionEnd.{SessionEnd}
use Rattle.ig_deals.specs.declared.end.SessionEnd.TheVariants as ends
use Rattle.ig_deals.specs.Serves.{EndsBy, IsOpen, Serves}
use Rattle.ig_session.specs.Serving.{IsCaused, Completes}

never : {A : Type 0} → true ≡ false → A
never e = absurd (clash e) where
  clash : true ≡ false → ⊥
  clash h = cc

-- an input that is whole frames to its end isn't one of which bytes are missing
not_truncated : (input after : List ℕ) (bodies others : List (List ℕ)) (missing : ℕ) → Begins client input bodies after
    → EndsBy (ends.Truncated missing) input bodies after → Begins client input others [] → IsOpen others → ⊥
not_truncated input after bodies others missing begun by begins is_open =
    let cut : Cut client input bodies after = record { begins = begun; ends = subst HasNoFrame (sym by.0.part) tt } in
    let whole : Cut client input others [] = record { begins = begins; ends = subst HasNoFrame (sym (front-short (least_after client others) max_body [] (omega arith))) tt } in
    let same : (bodies ≡ others) × (after ≡ []) = same_cut bodies others client input after [] cut whole in
    by.1 (subst IsOpen (sym same.0) is_open) same.1

-- each end but the good one, and that for memory, says what stands in the way
completes_at : (end : SessionEnd) (source source' : SourceState) (sink sink' : SinkState) (input after : List ℕ) (read : List (List ℕ)) → Begins client input read after
    → EndsBy end input read after → IsCaused end source source' sink sink' → Completes source' input end
completes_at ends.Ended source source' sink sink' input after read begun by caused bodies ended begins is_open = inl refl
completes_at (ends.Truncated missing) source source' sink sink' input after read begun by caused bodies ended begins is_open =
    absurd (not_truncated input after read bodies missing begun by begins is_open)
completes_at (ends.BadFrame place len) source source' sink sink' input after read begun by caused bodies ended begins is_open = never (sym ended ∙ caused.0.ended)
completes_at (ends.HelloRefused fault) source source' sink sink' input after read begun by caused bodies ended begins is_open = never (sym ended ∙ caused.0.ended)
completes_at ends.ReadFault source source' sink sink' input after read begun by caused bodies ended begins is_open = never (sym ended ∙ caused.0.ended)
completes_at ends.WriteFault source source' sink sink' input after read begun by caused bodies ended begins is_open = never (sym ended ∙ caused.0.ended)
completes_at ends.ByteLimit source source' sink sink' input after read begun by caused bodies ended begins is_open = never (sym ended ∙ caused.0.ended)
completes_at ends.NoMemory source source' sink sink' input after read begun by caused bodies ended begins is_open = inr refl

pub completes : (cfg : SessionCfg) (seat : ℕ) (end : SessionEnd) (source source' : SourceState) (sink sink' : SinkState) (input output : List ℕ) (entries : List (Entry Call Answer))
    → Serves cfg seat input output entries end → IsCaused end source source' sink sink' → Completes source' input end
completes cfg seat end source source' sink sink' input output entries serves caused =
    completes_at end source source' sink sink' input serves.runs.after serves.runs.bodies serves.runs.begins serves.runs.ends_by caused
