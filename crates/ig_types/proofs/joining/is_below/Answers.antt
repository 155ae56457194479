use Rattle.std.proofs.Common.{◌≡◌, rules, false, Some, IfSome, IsTrue}
use Rattle.ig_types.specs.IsBelow.{IsWithin}
use Rattle.ig_types.proofs.WithinLemmas.{refused}
use Rattle.ig_types.proofs.joining.is_below.Goals as goal

pub returns-then-not-is_within : goal.returns-then-not-is_within
returns-then-not-is_within c = refused (λ below. let no : c.is_within.result ≡ false = search rules in let yes : IsTrue c.is_within.result = c.is_within.ensures.1 (rw (c.as_slice.ensures, c.as_slice-2.ensures) below.fields) in cc)

pub returns-then-not-is_within-2 : goal.returns-then-not-is_within-2
returns-then-not-is_within-2 c = refused (λ below. let no : c.is_within-2.result ≡ false = search rules in let yes : IsTrue c.is_within-2.result = c.is_within-2.ensures.1 (rw (c.as_slice-3.ensures, c.as_slice-4.ensures) below.literals) in cc)

pub returns : goal.returns
returns c =
    let name : c.args.a.now.name ≡ c.args.b.now.name = search rules in
    let is_enum : c.args.a.now.is_enum ≡ c.args.b.now.is_enum = search rules in
    let affinity : IfSome c.args.a.now.affinity (λ key. c.args.b.now.affinity ≡ Some key) = search rules in
    let fields : IsWithin c.args.a.now.fields c.args.b.now.fields = rw (c.as_slice.ensures, c.as_slice-2.ensures) at c.is_within.ensures.0 (search rules) in
    let literals : IsWithin c.args.a.now.literals c.args.b.now.literals = rw (c.as_slice-3.ensures, c.as_slice-4.ensures) at c.is_within-2.ensures.0 (search rules) in (
      λ yes. record {
        type_id = c.requires.one_type;
        name = name;
        affinity = affinity;
        is_enum = is_enum;
        fields = fields;
        literals = literals;
        schemas = rw (c.as_slice-5.ensures, c.as_slice-6.ensures) at c.is_within-3.ensures.0 yes;
      },
      λ below. c.is_within-3.ensures.1 (rw (c.as_slice-5.ensures, c.as_slice-6.ensures) below.schemas),
    )
