use Rattle.std.proofs.Common.{rules, ◌≡◌, ℕ, ℤ, List, w32, to_z, of_z, sym, ap, ◌∙◌}
use Rattle.std.specs.Int.{cast_signed}
use Rattle.ig_base.specs.Hashes.{Java, units}
use Rattle.ig_text.proofs.ReadsLemmas.{done}
use Rattle.ig_text.proofs.WholeLemmas.{none_left, some_left}
use Rattle.ig_lines.proofs.NameLemmas.{name_is_text, name_within, no_name, name_there}
use Rattle.ig_lines.proofs.arguments.named_cache.Goals as goal

pub split_at-requires : goal.split_at-requires
split_at-requires c = name_within c.graphic_len.result c.args.text.now c.graphic_len.ensures

pub returns-then-is_empty : goal.returns-then-is_empty
returns-then-is_empty c = no_name c.graphic_len.result c.args.text.now c.split_at.result.0.now c.graphic_len.ensures c.split_at.ensures.front (none_left c.split_at.result.0.now c.if-is_empty.ensures)

pub returns-in-Ok : goal.returns-in-Ok
returns-in-Ok c =
    let bytes : List ℕ = c.split_at.result.0.now in
    let rest : List ℕ = c.split_at.result.1.now in
    let same : c.in-Ok.name.now ≡ c.split_at.result.0.now = c.in-Ok.ensures.cases.0 in
    let id : to_z w32 (of_z w32 c.text_hash.result) ≡ c.text_hash.result = search rules in
    name_there c.graphic_len.result c.args.text.now bytes rest c.graphic_len.ensures c.split_at.ensures.front c.split_at.ensures.back (some_left bytes c.if-is_empty.ensures)
    ∙ ap (λ (z : ℤ). done (z, rest)) (sym (id ∙ c.text_hash.ensures ∙ ap (λ (l : List ℕ). cast_signed w32 (Java (units l))) same))

pub returns-in-Err : goal.returns-in-Err
returns-in-Err c = absurd (c.in-Err.ensures.cases.0 (name_is_text c.graphic_len.result c.args.text.now c.split_at.result.0.now c.graphic_len.ensures c.split_at.ensures.front))
