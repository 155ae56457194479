-- Which words name caches.
use Rattle.std.proofs.Common.{◌≡◌, ℕ, ◌<◌, ◌≤◌, Bool, List, map, length, refl, sym, ap, ◌∙◌, subst, arith}
use Rattle.std.specs.Prelude.{◌&&◌, nat_lt, nat_le}
use Rattle.std.specs.List.{list_all}
use Rattle.std.proofs.lemmas.Bool.{lt-ltb, le-leb}
use Rattle.std.proofs.lemmas.List.{length-map}
use Rattle.std.proofs.lemmas.List.Folds.{list_all-map}
use Rattle.ignite_thin.specs.Words.{is_name, are_names}

-- of 1 to 64 words, whether each may name a cache
pub are_names_each : {X : Type 0} (bytes : X → List ℕ) (words : List X) → 0 < length words → length words ≤ 64 → are_names (map bytes words) ≡ list_all (λ w. is_name (bytes w)) words
are_names_each bytes words some few =
    let len : length (map bytes words) ≡ length words = length-map words bytes in
    ap (λ (b : Bool). b && (nat_le (length (map bytes words)) 64 && list_all is_name (map bytes words))) (lt-ltb 0 (length (map bytes words)) (omega (arith, len, some)))
    ∙ ap (λ (b : Bool). b && list_all is_name (map bytes words)) (le-leb (length (map bytes words)) 64 (omega (arith, len, few)))
    ∙ list_all-map is_name bytes words
