-- What a channel without its link keeps, as calls are made, frames come and replies are taken.
use Rattle.std.proofs.Common.{◌≡◌, cond, ℕ, ◌+◌, ◌-◌, ◌^◌, ◌<◌, ◌≤◌, ℤ, pos, Bool, true, false, ◌||◌, ◌&&◌, List, [], ◌∷◌, ◌++◌, length, min, Option, None, Some, inl, inr, refl, sym, ap, subst, ◌∙◌, arith, append-nil}
use Rattle.std.proofs.lemmas.Bool.{cond-true, cond-false, cases_Bool, false_from_ne_true, false≢true}
use Rattle.std.proofs.lemmas.Bool.Decides.{Decides-int_eq}
use Rattle.std.proofs.Math.Bool.{or-false}
use Rattle.std.proofs.lemmas.Cmp.{tied_itself}
use Rattle.std.proofs.lemmas.Grind.{flat_map-append}
use Rattle.std.proofs.lemmas.List.{length-append}
use Rattle.std.proofs.lemmas.List.Folds.{list_any-append, find-append}
use Rattle.std.proofs.lemmas.Map.Lookups.{exact_signed}
use Rattle.std.specs.Prelude.{not}
use Rattle.std.specs.Ordering.{int_cmp, int_eq, eq_by_cmp}
use Rattle.std.specs.Cmp.{int_cmp_total, Equal-is}
use Rattle.std.specs.FinMap as map
use Rattle.std.specs.List.{list_any, find, flat_map}
use Rattle.std.specs.Option.{option_map, option_or}
use Rattle.ig_base.specs.Frames.{Frame, Incomplete, front, max_body}
use Rattle.ig_base.proofs.FrameLemmas.{front-short}
use Rattle.ig_client.specs.PendingState.{PendingState, with_call, with_bytes, with_reply, after_take, reply_to, came, left_by, is_waiting, id_of}
use Rattle.ig_client.specs.Cutting.{Cutting, has_id, was_made, is_pending, asked}
use Rattle.ig_client.specs.ChannelRun.{AllAsked, reply_among}
use Rattle.ig_client.specs.Stands.{KeepsCalls, kept_of, reply_or}
use Rattle.ig_client.proofs.AskedLemmas.{made_more, made_last, not_made_yet, made_same, asked_more, asked_one, any_made, has_its_id, id_is, found_any, none_any, any_none}

-- ---- identifiers as keys

key_is : (q id : ℤ) → eq_by_cmp int_cmp q id ≡ true → q ≡ id
key_is q id same = exact_signed q id ((Equal-is (int_cmp q id)).0 same)

key_itself : (id : ℤ) → eq_by_cmp int_cmp id id ≡ true
key_itself id = (Equal-is (int_cmp id id)).1 (tied_itself int_cmp_total id)

key_is_not : (q id : ℤ) → eq_by_cmp int_cmp q id ≡ false → q ≡ id → ⊥
key_is_not q id other is = false≢true (sym other ∙ ap (λ i. eq_by_cmp int_cmp i id) is ∙ key_itself id)

key_eq : (q id : ℤ) → int_eq id q ≡ eq_by_cmp int_cmp q id
key_eq q id = elim (cases_Bool (eq_by_cmp int_cmp q id)) [
  | inl same ↦ (Decides-int_eq id q).1 (sym (key_is q id same)) ∙ sym same
  | inr other ↦ false_from_ne_true (int_eq id q) (λ t. key_is_not q id other (sym ((Decides-int_eq id q).0 t))) ∙ sym other
]

-- ---- what is kept of a call

came_or : (n : ℕ) (id : ℤ) (f : Option (List ℕ)) (made : Bool) → was_made n id ≡ made → came (reply_or n id f) ≡ option_map Frame f
came_or n id (Some body) made is = refl
came_or n id None true is = ap (λ b. came (cond b (Some None) None)) is
came_or n id None false is = ap (λ b. came (cond b (Some None) None)) is

-- the reply that is kept is the one that came and wasn't taken
pub came_kept : (n : ℕ) (bodies : List (List ℕ)) (was : Bool) (id : ℤ) → came (kept_of n bodies was id) ≡ reply_among bodies was id
came_kept n bodies true id = refl
came_kept n bodies false id = came_or n id (find (has_id id) bodies) (was_made n id) refl

waits_or : (n : ℕ) (bodies : List (List ℕ)) (id : ℤ) (f : Option (List ℕ)) → find (has_id id) bodies ≡ f → is_waiting (reply_or n id f) ≡ is_pending n bodies id
waits_or n bodies id (Some body) found = sym (ap (λ b. was_made n id && not b) (found_any (has_id id) bodies body found) ∙ and_false (was_made n id)) where
  and_false : (b : Bool) → (b && false) ≡ false
  and_false true = refl
  and_false false = refl
waits_or n bodies id None none = made_or (was_made n id) ∙ sym (ap (λ b. was_made n id && not b) (none_any (has_id id) bodies none)) where
  made_or : (b : Bool) → is_waiting (cond b (Some None) None) ≡ (b && true)
  made_or true = refl
  made_or false = refl

-- a call waits exactly while it is pending
pub kept_waits : (n : ℕ) (bodies : List (List ℕ)) (was : Bool) (id : ℤ) → (was ≡ true → list_any (has_id id) bodies ≡ true)
    → is_waiting (kept_of n bodies was id) ≡ is_pending n bodies id
kept_waits n bodies true id took = sym (ap (λ b. was_made n id && not b) (took refl) ∙ and_false (was_made n id)) where
  and_false : (b : Bool) → (b && false) ≡ false
  and_false true = refl
  and_false false = refl
kept_waits n bodies false id took = waits_or n bodies id (find (has_id id) bodies) refl

module _ (least n : ℕ) (stream : Cutting) (taken : ℤ → Bool) (c : PendingState) (k : KeepsCalls least n stream taken c) where
  pub replies_kept : (id : ℤ) → reply_to id c ≡ reply_among stream.bodies (taken id) id
  replies_kept id = ap came (k.calls id) ∙ came_kept n stream.bodies (taken id) id

  pub waits_kept : (id : ℤ) → is_waiting (map.get c.replies id) ≡ is_pending n stream.bodies id
  waits_kept id = ap is_waiting (k.calls id) ∙ kept_waits n stream.bodies (taken id) id (k.took id)

  -- no reply to a call that wasn't made was taken
  untaken : (id : ℤ) → was_made n id ≡ false → taken id ≡ false
  untaken id unmade = false_from_ne_true (taken id) (λ t. false≢true (sym unmade ∙ any_made n [] stream.bodies id k.all_asked (k.took id t)))

  unanswered : (id : ℤ) → was_made n id ≡ false → find (has_id id) stream.bodies ≡ None
  unanswered id unmade =
      any_none (has_id id) stream.bodies (false_from_ne_true (list_any (has_id id) stream.bodies) (λ t. false≢true (sym unmade ∙ any_made n [] stream.bodies id k.all_asked t)))

  -- the call that is made under the next identifier
  next_kept : kept_of (n + 1) stream.bodies (taken (pos (n + 1))) (pos (n + 1)) ≡ Some None
  next_kept =
      ap (λ was. kept_of (n + 1) stream.bodies was (pos (n + 1))) (untaken (pos (n + 1)) (not_made_yet n))
      ∙ ap (reply_or (n + 1) (pos (n + 1))) (unanswered (pos (n + 1)) (not_made_yet n))
      ∙ cond-true (was_made (n + 1) (pos (n + 1))) (Some None) None (made_last n)

  others_kept : (id : ℤ) → (id ≡ pos (n + 1) → ⊥) → kept_of (n + 1) stream.bodies (taken id) id ≡ kept_of n stream.bodies (taken id) id
  others_kept id other = go (taken id) (find (has_id id) stream.bodies) where
    go : (was : Bool) (f : Option (List ℕ)) → cond was None (reply_or (n + 1) id f) ≡ cond was None (reply_or n id f)
    go true f = refl
    go false (Some body) = refl
    go false None = ap (λ b. cond b (Some None) None) (made_same n id other)

  -- one call more is made
  pub keeps_call : KeepsCalls least (n + 1) stream taken (with_call c)
  keeps_call = record {
    last_is = ap (λ m. m + 1) k.last_is;
    waiting = omega (arith, k.waiting);
    calls = λ q.
        map.get-insert int_cmp_total c.replies (pos (c.last + 1)) None q
        ∙ ap (λ m. cond (eq_by_cmp int_cmp q (pos (m + 1))) (Some None) (map.get c.replies q)) k.last_is ∙ now q;
    all_asked = asked_more n [] stream.bodies k.all_asked;
    took = k.took;
    place = k.place;
    part = k.part;
    missing = k.missing;
  } where
    now : (q : ℤ) → cond (eq_by_cmp int_cmp q (pos (n + 1))) (Some None) (map.get c.replies q) ≡ kept_of (n + 1) stream.bodies (taken q) q
    now q = elim (cases_Bool (eq_by_cmp int_cmp q (pos (n + 1)))) [
      | inl same ↦
          cond-true (eq_by_cmp int_cmp q (pos (n + 1))) (Some None) (map.get c.replies q) same
          ∙ sym (ap (λ i. kept_of (n + 1) stream.bodies (taken i) i) (key_is q (pos (n + 1)) same) ∙ next_kept)
      | inr other ↦
          cond-false (eq_by_cmp int_cmp q (pos (n + 1))) (Some None) (map.get c.replies q) other
          ∙ k.calls q ∙ sym (others_kept q (key_is_not q (pos (n + 1)) other))
    ]

  -- more bytes of the frame that is being read
  pub keeps_part : (piece : List ℕ) (missing : ℕ) → front least max_body (stream.rest ++ piece) ≡ Incomplete missing
      → KeepsCalls least n (record { bodies = stream.bodies; rest = stream.rest ++ piece }) taken (with_bytes piece c)
  keeps_part piece missing lacks = record {
    last_is = k.last_is;
    waiting = k.waiting;
    calls = k.calls;
    all_asked = k.all_asked;
    took = k.took;
    place = k.place;
    part = ap (λ (l : List ℕ). l ++ piece) k.part;
    missing = (missing, lacks);
  }

  -- the frame is whole, and replies to a pending call
  pub keeps_reply : (piece body : List ℕ) → c.part ++ piece ≡ Frame body → 1 ≤ c.waiting → is_pending n stream.bodies (id_of body) ≡ true
      → KeepsCalls least n (record { bodies = stream.bodies ++ body ∷ []; rest = [] }) taken (with_reply (id_of body) (with_bytes piece c))
  keeps_reply piece body whole some is = record {
    last_is = k.last_is;
    waiting = omega (arith, k.waiting, some, length-append stream.bodies (body ∷ []));
    calls = λ q.
        map.get-insert int_cmp_total c.replies (id_of body) (Some (c.part ++ piece)) q
        ∙ ap (λ (l : List ℕ). cond (eq_by_cmp int_cmp q (id_of body)) (Some (Some l)) (map.get c.replies q)) whole ∙ now q;
    all_asked = asked_one n stream.bodies body k.all_asked is;
    took = λ q t. list_any-append (has_id q) stream.bodies (body ∷ []) ∙ ap (λ b. b || list_any (has_id q) (body ∷ [])) (k.took q t);
    place = omega (arith, k.place, ap length whole, frames);
    part = refl;
    missing = (4, front-short least max_body [] (omega arith));
  } where
    frames : length (flat_map Frame (stream.bodies ++ body ∷ [])) ≡ length (flat_map Frame stream.bodies) + length (Frame body)
    frames =
        ap length (flat_map-append Frame stream.bodies (body ∷ [])) ∙ length-append (flat_map Frame stream.bodies) (flat_map Frame (body ∷ []))
        ∙ ap (λ (l : List ℕ). length (flat_map Frame stream.bodies) + length l) (append-nil (Frame body))

    no_reply : list_any (has_id (id_of body)) stream.bodies ≡ false
    no_reply = false_from_ne_true (list_any (has_id (id_of body)) stream.bodies) (λ t.
        false≢true (sym (ap (λ b. was_made n (id_of body) && not b) t ∙ and_false (was_made n (id_of body))) ∙ is)) where
          and_false : (b : Bool) → (b && false) ≡ false
          and_false true = refl
          and_false false = refl

    not_taken : taken (id_of body) ≡ false
    not_taken = false_from_ne_true (taken (id_of body)) (λ t. false≢true (sym no_reply ∙ k.took (id_of body) t))

    its : kept_of n (stream.bodies ++ body ∷ []) (taken (id_of body)) (id_of body) ≡ Some (Some (Frame body))
    its =
        ap (λ was. kept_of n (stream.bodies ++ body ∷ []) was (id_of body)) not_taken
        ∙ ap (reply_or n (id_of body)) (find-append (has_id (id_of body)) stream.bodies (body ∷ [])
        ∙ ap (λ (f : Option (List ℕ)). option_or f (find (has_id (id_of body)) (body ∷ []))) (any_none (has_id (id_of body)) stream.bodies no_reply)
        ∙ cond-true (has_id (id_of body) body) (Some body) None (has_its_id body))

    or_none : (f : Option (List ℕ)) → option_or f None ≡ f
    or_none None = refl
    or_none (Some x) = refl

    another : (q : ℤ) → (q ≡ (id_of body) → ⊥) → kept_of n (stream.bodies ++ body ∷ []) (taken q) q ≡ kept_of n stream.bodies (taken q) q
    another q other =
        let has_not : has_id q body ≡ false = false_from_ne_true (has_id q body) (λ t. other (sym (id_is q body t))) in
        ap (λ (f : Option (List ℕ)). cond (taken q) None (reply_or n q f)) (
        find-append (has_id q) stream.bodies (body ∷ [])
        ∙ ap (option_or (find (has_id q) stream.bodies)) (cond-false (has_id q body) (Some body) None has_not)
        ∙ or_none (find (has_id q) stream.bodies))

    now : (q : ℤ) → cond (eq_by_cmp int_cmp q (id_of body)) (Some (Some (Frame body))) (map.get c.replies q) ≡ kept_of n (stream.bodies ++ body ∷ []) (taken q) q
    now q = elim (cases_Bool (eq_by_cmp int_cmp q (id_of body))) [
      | inl same ↦
          cond-true (eq_by_cmp int_cmp q (id_of body)) (Some (Some (Frame body))) (map.get c.replies q) same
          ∙ sym (ap (λ i. kept_of n (stream.bodies ++ body ∷ []) (taken i) i) (key_is q (id_of body) same) ∙ its)
      | inr other ↦
          cond-false (eq_by_cmp int_cmp q (id_of body)) (Some (Some (Frame body))) (map.get c.replies q) other
          ∙ k.calls q ∙ sym (another q (key_is_not q (id_of body) other))
    ]

  -- what is taken is forgotten
  pub keeps_take : (id : ℤ) (frame : List ℕ) → reply_to id c ≡ Some frame → KeepsCalls least n stream (λ q. taken q || int_eq id q) (after_take id c)
  keeps_take id frame reply = record {
    last_is = k.last_is;
    waiting = k.waiting;
    calls = λ q.
        ap (λ (r : Option (List ℕ)). map.get (left_by id r c.replies) q) reply ∙ map.get-remove int_cmp_total c.replies id q
        ∙ ap (cond (eq_by_cmp int_cmp q id) None) (k.calls q)
        ∙ gone (eq_by_cmp int_cmp q id) (taken q) (reply_or n q (find (has_id q) stream.bodies))
        ∙ ap (λ b. kept_of n stream.bodies (taken q || b) q) (sym (key_eq q id));
    all_asked = k.all_asked;
    took = λ q t. elim (cases_Bool (taken q)) [
      | inl before ↦ k.took q before
      | inr not_before ↦
          let is : int_eq id q ≡ true = sym (ap (λ b. b || int_eq id q) not_before) ∙ t in
          subst (λ i. list_any (has_id i) stream.bodies ≡ true) ((Decides-int_eq id q).0 is) came_once
    ];
    place = k.place;
    part = k.part;
    missing = k.missing;
  } where
    gone : (a t : Bool) (kept : Option (Option (List ℕ))) → cond a None (cond t None kept) ≡ cond (t || a) None kept
    gone true true kept = refl
    gone true false kept = refl
    gone false true kept = refl
    gone false false kept = refl

    found : (was : Bool) (f : Option (List ℕ)) → find (has_id id) stream.bodies ≡ f → cond was None (option_map Frame f) ≡ Some frame → list_any (has_id id) stream.bodies ≡ true
    found true f at some = cc
    found false None at some = cc
    found false (Some body) at some = found_any (has_id id) stream.bodies body at

    came_once : list_any (has_id id) stream.bodies ≡ true
    came_once = found (taken id) (find (has_id id) stream.bodies) refl (sym (replies_kept id) ∙ reply)

-- the same calls were taken
pub keeps_alike : (least n : ℕ) (stream : Cutting) (taken taken' : ℤ → Bool) (c : PendingState) → ((q : ℤ) → taken' q ≡ taken q)
    → KeepsCalls least n stream taken c → KeepsCalls least n stream taken' c
keeps_alike least n stream taken taken' c alike k = record {
  last_is = k.last_is;
  waiting = k.waiting;
  calls = λ q. k.calls q ∙ ap (λ b. kept_of n stream.bodies b q) (sym (alike q));
  all_asked = k.all_asked;
  took = λ q t. k.took q (sym (alike q) ∙ t);
  place = k.place;
  part = k.part;
  missing = k.missing;
}

-- the replies that are left after one was taken
pub replies_after : (bodies : List (List ℕ)) (taken : ℤ → Bool) (c : PendingState) (id : ℤ) (frame : List ℕ) → reply_to id c ≡ Some frame
    → ((q : ℤ) → reply_to q c ≡ reply_among bodies (taken q) q) → (q : ℤ) → reply_to q (after_take id c) ≡ reply_among bodies (taken q || int_eq id q) q
replies_after bodies taken c id frame reply are q =
    ap (λ (r : Option (List ℕ)). came (map.get (left_by id r c.replies) q)) reply ∙ ap came (map.get-remove int_cmp_total c.replies id q)
    ∙ came_cond (eq_by_cmp int_cmp q id) (map.get c.replies q) ∙ ap (cond (eq_by_cmp int_cmp q id) None) (are q)
    ∙ gone (eq_by_cmp int_cmp q id) (taken q) (option_map Frame (find (has_id q) bodies))
    ∙ ap (λ b. reply_among bodies (taken q || b) q) (sym (key_eq q id)) where
      came_cond : (b : Bool) (x : Option (Option (List ℕ))) → came (cond b None x) ≡ cond b None (came x)
      came_cond true x = refl
      came_cond false x = refl

      gone : (a t : Bool) (kept : Option (List ℕ)) → cond a None (cond t None kept) ≡ cond (t || a) None kept
      gone true true kept = refl
      gone true false kept = refl
      gone false true kept = refl
      gone false false kept = refl
