-- Lemmas on bytes that are gathered for a writer.
use Rattle.std.proofs.Common.{◌≡◌, ℕ, List, [], ◌++◌, length, take, Option, sym, ap, ◌∙◌, subst, arith, append-nil}
use Rattle.std.proofs.lemmas.List.{take_all, drop_all, take-append-drop}
use Rattle.std.specs.Io.KnownBytes.{Appends}
use Rattle.std.proofs.KnownBytes.{Appends-nil, Appends-trans}
use Rattle.ig_link.specs.Gathered.{HandsOn}

-- no byte was written
pub waits_on : (before : Option (List ℕ)) (bytes waiting : List ℕ) → waiting ≡ bytes → HandsOn before before bytes waiting
waits_on before bytes waiting same = record { count = 0; fits = omega arith; written = Appends-nil before; waits = same }

-- all bytes were written
pub all_written : (before after : Option (List ℕ)) (bytes asked waiting : List ℕ) (count : ℕ) → asked ≡ bytes → count ≡ length asked → Appends before after (take count asked)
    → waiting ≡ [] → HandsOn before after bytes waiting
all_written before after bytes asked waiting count same size written none =
    let whole = ap length same in
    record {
      count = count;
      fits = omega (arith, size, whole);
      written = subst (λ (l : List ℕ). Appends before after (take count l)) same written;
      waits = none ∙ sym (drop_all count bytes (omega (arith, size, whole)));
    }

-- a piece was written after all bytes that waited
pub written_after : (before between after : Option (List ℕ)) (bytes none piece waiting : List ℕ) (n : ℕ) → HandsOn before between bytes none → none ≡ [] → Appends between after (take n piece)
    → waiting ≡ [] → HandsOn before after (bytes ++ take n piece) waiting
written_after before between after bytes none piece waiting n first empty more over =
    let all : take first.count bytes ≡ bytes =
    sym (append-nil (take first.count bytes)) ∙ ap (λ l. take first.count bytes ++ l) (sym (sym first.waits ∙ empty)) ∙ take-append-drop first.count bytes in
    let front : Appends before between bytes = subst (λ (l : List ℕ). Appends before between l) all first.written in
    let both : List ℕ = bytes ++ take n piece in
    record {
      count = length both;
      fits = omega arith;
      written = subst (λ (l : List ℕ). Appends before after l) (sym (take_all (length both) both (omega arith))) (Appends-trans before between after bytes (take n piece) front more);
      waits = over ∙ sym (drop_all (length both) both (omega arith));
    }
