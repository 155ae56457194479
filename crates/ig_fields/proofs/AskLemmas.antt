-- What reading a request gives is the one right answer, and so is what reading a result gives.
use Rattle.std.proofs.Common.{◌≡◌, ◌≢◌, ℕ, ◌+◌, ◌≤◌, List, length, drop, Option, None, Some, Result, Ok, Err, refl, sym, ap, subst, ◌∙◌, arith, length-drop}
use Rattle.ig_base.specs.Numbers.{AreBytes}
use Rattle.ig_value.proofs.AgreesLemmas.{AreBytes-drop}
use Rattle.ig_wire.specs.Fields.{frame_place}
use Rattle.ig_wire.specs.declared.AskFault.{AskFault}
use Rattle.ig_wire.specs.declared.AskFault.TheVariants as fault
use Rattle.ig_wire.specs.declared.ReadFault.{ReadFault}
use Rattle.ig_wire.specs.declared.ReadFault.TheVariants as read_fault
use Rattle.ig_wire.specs.declared.Profile.{Profile}
use Rattle.ig_fields.specs.Format.{Fields}
use Rattle.ig_fields.specs.ReadingFields.{message_of}
use Rattle.ig_fields.specs.Ask.{Ask, ResultForm}
use Rattle.ig_fields.specs.AsksRightly.{AsksRightly, fields_after, served, asked_fields, asked}
use Rattle.ig_fields.specs.ShowsRightly.{ShowsRightly, shown_fields, shown_by}
use Rattle.ig_fields.specs.AskAnswers.{AnswersAs}
use Rattle.ig_fields.specs.ShownAnswers.{ShowsAs}
use Rattle.ig_fields.proofs.FormatLemmas.{message_read}

-- the offset in the frame of what stands at an offset of the fields
field_place : (body : List ℕ) (left at : ℕ) → 10 ≤ length body → left + at ≡ length (fields_after body) → frame_place body left ≡ 14 + at
field_place body left at le there = omega (arith, le, there, length-drop 10 body)

-- the offset in the frame of what stands at an offset of the result
result_place : (body : List ℕ) (start left at : ℕ) → start ≤ length body → left + at ≡ length (drop start body) → frame_place body left ≡ 4 + start + at
result_place body start left at le there = omega (arith, le, there, length-drop start body)

module _ {A : Type 0} where
  by_fields : (body : List ℕ) → AreBytes body → 10 ≤ length body → (ask : Ask A) (r : Result (Fields ask.format) ℕ) → message_of ask.format (fields_after body) ≡ r → AsksRightly (Some ask) body (asked_fields ask body r)
  by_fields body bytes le ask (Ok x) e =
      by_profile (ask.profile x) refl where
        by_profile : (p : Option Profile) → ask.profile x ≡ p → AsksRightly (Some ask) body (served (ask.request x) p)
        by_profile None is = (ask, x, refl, (message_read ask.format).right (fields_after body) x (AreBytes-drop 10 body bytes) e, is, refl)
        by_profile (Some p) is = (ask, x, refl, (message_read ask.format).right (fields_after body) x (AreBytes-drop 10 body bytes) e, is)
  by_fields body bytes le ask (Err left) e =
      let h = (message_read ask.format).halts (fields_after body) left (AreBytes-drop 10 body bytes) e in
      (ask, h.at, refl, h.wrong, field_place body left h.at le h.there)

  -- the answer that reading a request gives is right
  pub asked_is_right : (row : Option (Ask A)) (body : List ℕ) → AreBytes body → 10 ≤ length body → AsksRightly row body (asked row body)
  asked_is_right None body bytes le = refl
  asked_is_right (Some ask) body bytes le = by_fields body bytes le ask (message_of ask.format (fields_after body)) refl

  -- and it is the only right one but out of memory
  pub one_right_ask : (row : Option (Ask A)) (body : List ℕ) (answer : Result A AskFault) → 10 ≤ length body → AsksRightly row body answer → answer ≢ Err fault.NoMemory → asked row body ≡ answer
  one_right_ask row body (Ok r) le (ask, x, known, spelled, profile, request) n =
      let m = (message_read ask.format).again (fields_after body) x spelled in
      rw (known, m, profile, request) refl
  one_right_ask row body (Err (fault.Profile p)) le (ask, x, known, spelled, profile) n =
      let m = (message_read ask.format).again (fields_after body) x spelled in
      rw (known, m, profile) refl
  one_right_ask row body (Err (fault.Unread place)) le (ask, at, known, wrong, there) n =
      let h = (message_read ask.format).halted (fields_after body) at wrong in
      let is : frame_place body h.0 ≡ place = field_place body h.0 at le h.1 ∙ sym there in
      rw (known, h.2) (ap (λ (k : ℕ). Err (fault.Unread k)) is)
  one_right_ask row body (Err fault.NotMine) le none n = rw none refl
  one_right_ask row body (Err fault.NoMemory) le u n = absurd (n refl)

  by_result : (form : ResultForm A) (body : List ℕ) (at : ℕ) → AreBytes body → at ≤ length body → (r : Result (Fields form.format) ℕ) → message_of form.format (drop at body) ≡ r → ShowsRightly form body at (shown_fields form body r)
  by_result form body at bytes le (Ok x) e = (x, (message_read form.format).right (drop at body) x (AreBytes-drop at body bytes) e, refl)
  by_result form body at bytes le (Err left) e =
      let h = (message_read form.format).halts (drop at body) left (AreBytes-drop at body bytes) e in
      (h.at, h.wrong, result_place body at left h.at le h.there)

  -- the answer that reading a result gives is right
  pub shown_is_right : (form : ResultForm A) (body : List ℕ) (at : ℕ) → AreBytes body → at ≤ length body → ShowsRightly form body at (shown_by form body at)
  shown_is_right form body at bytes le = by_result form body at bytes le (message_of form.format (drop at body)) refl

  -- and it is the only right one but out of memory
  pub one_right_result : (form : ResultForm A) (body : List ℕ) (at : ℕ) (answer : Result A ReadFault) → at ≤ length body → ShowsRightly form body at answer → answer ≢ Err read_fault.NoMemory → shown_by form body at ≡ answer
  one_right_result form body at (Ok shown) le (x, spelled, shows) n =
      let m = (message_read form.format).again (drop at body) x spelled in
      rw (m, shows) refl
  one_right_result form body at (Err (read_fault.Unread unread)) le (further, wrong, there) n =
      let h = (message_read form.format).halted (drop at body) further wrong in
      let is : frame_place body h.0 ≡ unread.place = result_place body at h.0 further le h.1 ∙ sym there in
      rw h.2 (ap (λ (k : ℕ). Err (read_fault.Unread (record { place = k }))) is)
  one_right_result form body at (Err read_fault.NoMemory) le u n = absurd (n refl)

  -- an answer that is that of reading, or out of memory, is right
  pub answer_is_right : (row : Option (Ask A)) (body : List ℕ) (answer : Result A AskFault) → AreBytes body → 10 ≤ length body → AnswersAs (asked row body) answer → AsksRightly row body answer
  answer_is_right row body (Ok x) bytes le e = subst (AsksRightly row body) e (asked_is_right row body bytes le)
  answer_is_right row body (Err fault.NoMemory) bytes le e = tt
  answer_is_right row body (Err fault.NotMine) bytes le e = subst (AsksRightly row body) e (asked_is_right row body bytes le)
  answer_is_right row body (Err (fault.Unread place)) bytes le e = subst (AsksRightly row body) e (asked_is_right row body bytes le)
  answer_is_right row body (Err (fault.Profile profile)) bytes le e = subst (AsksRightly row body) e (asked_is_right row body bytes le)

  pub shown_answer_is_right : (form : ResultForm A) (body : List ℕ) (at : ℕ) (answer : Result A ReadFault) → AreBytes body → at ≤ length body → ShowsAs (shown_by form body at) answer → ShowsRightly form body at answer
  shown_answer_is_right form body at (Ok x) bytes le e = subst (ShowsRightly form body at) e (shown_is_right form body at bytes le)
  shown_answer_is_right form body at (Err read_fault.NoMemory) bytes le e = tt
  shown_answer_is_right form body at (Err (read_fault.Unread unread)) bytes le e = subst (ShowsRightly form body at) e (shown_is_right form body at bytes le)
