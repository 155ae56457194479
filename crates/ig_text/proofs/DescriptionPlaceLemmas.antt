-- Reading a description never goes back.
use Rattle.std.proofs.Common.{ℕ, ◌≤◌, Bool, true, false, cond, List, length, drop, codes, Ok, Err}
use Rattle.ig_value.specs.Part.{i32}
use Rattle.ig_text.specs.Tokens.{colon, equals, open_bracket, close_bracket, open_brace, close_brace}
use Rattle.ig_text.specs.ReadText.{Read, ◌>>=◌, mapped_read, begins_with, joined_at, scalar_at, quoted_at, optional_at, items_at}
use Rattle.ig_text.specs.DescriptionText.{slash, field_at, literal_at, ids_at, schema_at, enum_at, braced_at, adjacent_at, lists_at, head_at, description_of, after_word, whole_at, is_in_order, description_at}
use Rattle.ig_text.proofs.ReadsLemmas.{done}
use Rattle.ig_text.proofs.PlaceLemmas.{Advances, drop_within, more_within, then_within, chosen_within, here, mapped_within, checked_advances, marked_advances, joined_advances, scalar_advances, quoted_advances, items_advances, optional_advances}

-- ---- the members

field_advances : Advances field_at
field_advances s =
    let ids = joined_advances (scalar_at i32) slash (scalar_at i32) (scalar_advances i32) (scalar_advances i32) in
    mapped_within _ (length s) (joined_at quoted_at equals (joined_at (scalar_at i32) slash (scalar_at i32)) s) (joined_advances quoted_at equals (joined_at (scalar_at i32) slash (scalar_at i32)) quoted_advances ids s)

literal_advances : Advances literal_at
literal_advances s = mapped_within _ (length s) (joined_at quoted_at equals (scalar_at i32) s) (joined_advances quoted_at equals (scalar_at i32) quoted_advances (scalar_advances i32) s)

ids_advances : Advances ids_at
ids_advances = marked_advances open_bracket (items_at (scalar_at i32) close_bracket) (items_advances (scalar_at i32) close_bracket (scalar_advances i32))

schema_advances : Advances schema_at
schema_advances s = mapped_within _ (length s) (joined_at (scalar_at i32) equals ids_at s) (joined_advances (scalar_at i32) equals ids_at (scalar_advances i32) ids_advances s)

-- ---- the head and the lists

enum_advances : Advances enum_at
enum_advances s =
    chosen_within {A = Bool} (begins_with (codes "0") s) (length s) (done (false, drop 1 s)) (cond (begins_with (codes "1") s) (done (true, drop 1 s)) (Err (length s))) (drop_within 1 s)
    (chosen_within {A = Bool} (begins_with (codes "1") s) (length s) (done (true, drop 1 s)) (Err (length s)) (drop_within 1 s) (here (length s)))

braced_advances : {A : Type 0} (R : List ℕ → Read A) → Advances R → Advances (braced_at R)
braced_advances R p = marked_advances open_brace (items_at R close_brace) (items_advances R close_brace p)

pub adjacent_advances : {A B : Type 0} (R : List ℕ → Read A) (Q : List ℕ → Read B) → Advances R → Advances Q → Advances (adjacent_at R Q)
adjacent_advances R Q p q s =
    then_within (length s) (R s) (λ x. Q x.1 >>= λ y. done ((x.0, y.0), y.1)) (p s) (λ x. then_within (length x.1) (Q x.1) (λ y. done ((x.0, y.0), y.1)) (q x.1) (λ y. here (length y.1)))

lists_advances : Advances lists_at
lists_advances =
    let later = adjacent_advances (braced_at literal_at) (braced_at schema_at) (braced_advances literal_at literal_advances) (braced_advances schema_at schema_advances) in
    adjacent_advances (braced_at field_at) (adjacent_at (braced_at literal_at) (braced_at schema_at)) (braced_advances field_at field_advances) later

head_advances : Advances head_at
head_advances =
    let last = joined_advances (optional_at quoted_at) colon enum_at (optional_advances quoted_at quoted_advances) enum_advances in
    let names = joined_advances quoted_at colon (joined_at (optional_at quoted_at) colon enum_at) quoted_advances last in
    joined_advances (scalar_at i32) colon (joined_at quoted_at colon (joined_at (optional_at quoted_at) colon enum_at)) (scalar_advances i32) names

-- ---- descriptions

after_word_advances : {A : Type 0} (word : List ℕ) (R : List ℕ → Read A) → Advances R → Advances (after_word word R)
after_word_advances {A} word R p s =
    let t : List ℕ = drop (length word) s in
    chosen_within {A = A} (begins_with word s) (length s) (R t) (Err (length s)) (more_within (length t) (length s) (R t) (drop_within (length word) s) (p t)) (here (length s))

whole_advances : Advances whole_at
whole_advances s =
    mapped_within description_of (length s) (after_word (codes "type:") (adjacent_at head_at lists_at) s)
    (after_word_advances (codes "type:") (adjacent_at head_at lists_at) (adjacent_advances head_at lists_at head_advances lists_advances) s)

pub description_advances : Advances description_at
description_advances = checked_advances is_in_order whole_at whole_advances
