-- Keys, each once, in the order of their first mention.
use Rattle.std.proofs.Common.{◌≡◌, ℕ, Bool, true, false, cond, not, ◌&&◌, ◌||◌, List, [], ◌∷◌, ◌++◌, filter, Option, None, Some, is_some, refl, sym, ap, ◌∙◌}
use Rattle.std.proofs.lemmas.Bool.{cond-true, cond-false}
use Rattle.std.proofs.lemmas.Bool.Decides.{same_from_decides}
use Rattle.std.proofs.lemmas.List.Elements.{filter-append, filter_map-append}
use Rattle.std.proofs.lemmas.List.Folds.{list_any-append}
use Rattle.std.specs.List.{list_any, filter_map}
use Rattle.std.specs.FinMap as finite
use Rattle.ig_value.specs.declared.value.Value.{Value}
use Rattle.ig_value.specs.Canon.{Canon}
use Rattle.ig_caches.specs.declared.call.Pair.{Pair}
use Rattle.ig_caches.specs.Rows.{Rows, is_same, row_of, first_mentions, rows_of}
use Rattle.ig_caches.specs.RowEntries.{is_among}
use Rattle.ig_caches.proofs.RowEntryLemmas.{ties, tied_same, same_tied}
use Rattle.ig_caches.proofs.SameLemmas.{is_same_exact}

-- tests whether the bytes are the canonical encoding of one of the keys
abbrev pub is_mentioned : List Value → List ℕ → Bool
is_mentioned keys form = is_among Canon keys form

-- two keys are the same exactly if their encodings tie
same_ties : (key other : Value) → is_same other key ≡ ties (Canon key) (Canon other)
same_ties key other =
    same_from_decides (is_same other key) (ties (Canon key) (Canon other)) (is_same_exact other key)
    (λ t. sym (tied_same (Canon key) (Canon other) t), λ e. same_tied (Canon key) (Canon other) (sym e))

any_same : (keys : List Value) (key : Value) → list_any (λ other. is_same other key) keys ≡ is_mentioned keys (Canon key)
any_same keys key = ap (λ (f : Value → Bool). list_any f keys) (λ i other. same_ties key other i)

last : (p : Value → Bool) (key : Value) (same any : Bool) → p key ≡ not same → filter p (cond any [] (key ∷ [])) ≡ cond (same || any) [] (key ∷ [])
last p key true true e = refl
last p key false true e = refl
last p key true false e = cond-false (p key) _ _ e
last p key false false e = cond-true (p key) _ _ e

-- one more key is mentioned
mentions_push : (keys : List Value) (key : Value) → first_mentions (keys ++ key ∷ []) ≡ first_mentions keys ++ cond (list_any (λ other. is_same other key) keys) [] (key ∷ [])
mentions_push [] key = refl
mentions_push (first ∷ keys) key =
    let p : Value → Bool = λ other. not (is_same first other) in
    let any : Bool = list_any (λ other. is_same other key) keys in
    ap (λ (l : List Value). first ∷ filter p l) (mentions_push keys key)
    ∙ ap (λ (l : List Value). first ∷ l) (filter-append p (first_mentions keys) (cond any [] (key ∷ [])))
    ∙ ap (λ (l : List Value). first ∷ (filter p (first_mentions keys) ++ l)) (last p key (is_same first key) any refl)

-- the row, as a list
abbrev pub listed : Option Pair → List Pair
listed None = []
listed (Some row) = row ∷ []

filtered : (rows : Rows) (key : Value) (any : Bool) → filter_map (row_of rows) (cond any [] (key ∷ [])) ≡ cond any [] (listed (row_of rows key))
filtered rows key true = refl
filtered rows key false = by (row_of rows key) refl
  where
    by : (o : Option Pair) → row_of rows key ≡ o → filter_map (row_of rows) (key ∷ []) ≡ listed (row_of rows key)
    by None is = cc
    by (Some row) is = cc

rows_push : (rows : Rows) (keys : List Value) (key : Value) → rows_of rows (keys ++ key ∷ []) ≡ rows_of rows keys ++ cond (is_mentioned keys (Canon key)) [] (listed (row_of rows key))
rows_push rows keys key =
    ap (filter_map (row_of rows)) (mentions_push keys key)
    ∙ filter_map-append (row_of rows) (first_mentions keys) (cond (list_any (λ other. is_same other key) keys) [] (key ∷ []))
    ∙ ap (λ (l : List Pair). rows_of rows keys ++ l) (filtered rows key (list_any (λ other. is_same other key) keys))
    ∙ ap (λ (b : Bool). rows_of rows keys ++ cond b [] (listed (row_of rows key))) (any_same keys key)

-- the rows that were found, and one more unless its key was met: the rows of one more key
pub rows_met : (rows : Rows) (keys : List Value) (key : Value) (out : List Pair) (met : Bool) (row : Option Pair) → out ≡ rows_of rows keys
    → met ≡ (is_some (row_of rows key) && is_mentioned keys (Canon key)) → row ≡ cond met None (row_of rows key) → out ++ listed row ≡ rows_of rows (keys ++ key ∷ [])
rows_met rows keys key out met row are was is =
    ap (λ (l : List Pair). l ++ listed row) are ∙ ap (λ (l : List Pair). rows_of rows keys ++ l) (at (row_of rows key) met (is_mentioned keys (Canon key)) row was is) ∙ sym (rows_push rows keys key)
  where
    at : (o : Option Pair) (met any : Bool) (row : Option Pair) → met ≡ (is_some o && any) → row ≡ cond met None o → listed row ≡ cond any [] (listed o)
    at None met true row was is = ap listed (is ∙ ap (λ b. cond b None None) was)
    at None met false row was is = ap listed (is ∙ ap (λ b. cond b None None) was)
    at (Some r) met true row was is = ap listed (is ∙ ap (λ b. cond b None (Some r)) was)
    at (Some r) met false row was is = ap listed (is ∙ ap (λ b. cond b None (Some r)) was)

-- the forms that were met are those of the keys with a row
pub forms_met : (rows : Rows) (keys : List Value) (key : Value) (old new : List ℕ → Bool)
    → ((q : List ℕ) → new q ≡ (old q || (ties q (Canon key) && is_some (row_of rows key))))
    → ((q : List ℕ) → old q ≡ (is_some (finite.get rows q) && is_mentioned keys q))
    → (q : List ℕ) → new q ≡ (is_some (finite.get rows q) && is_mentioned (keys ++ key ∷ []) q)
forms_met rows keys key old new step was q =
    step q ∙ ap (λ (b : Bool). b || (ties q (Canon key) && is_some (row_of rows key))) (was q)
    ∙ at (ties q (Canon key)) (is_some (finite.get rows q)) (is_some (row_of rows key)) (is_mentioned keys q) (λ t. ap (λ (l : List ℕ). is_some (finite.get rows l)) (tied_same q (Canon key) t))
    ∙ ap (λ (b : Bool). is_some (finite.get rows q) && b) (sym (list_any-append (λ (other : Value). ties q (Canon other)) keys (key ∷ [])))
  where
    at : (tied has there any : Bool) → (tied ≡ true → has ≡ there) → ((has && any) || (tied && there)) ≡ (has && (any || (tied || false)))
    at true true true true same = refl
    at true true true false same = refl
    at true false false true same = refl
    at true false false false same = refl
    at true true false any same = let e : true ≡ false = same refl in absurd (cc)
    at true false true any same = let e : false ≡ true = same refl in absurd (cc)
    at false true there true same = refl
    at false true there false same = refl
    at false false there any same = refl
