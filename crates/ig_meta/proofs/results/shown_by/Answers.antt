use Rattle.std.proofs.Common.{rules}
use Rattle.ig_caches.specs.declared.Outcome.TheVariants as outcome
use Rattle.ig_caches.specs.declared.Shown.TheVariants.{Out}
use Rattle.ig_meta.specs.TypeViews.{type_in}
use Rattle.ig_meta.proofs.ResultLemmas.{found_shown, names_shown}
use Rattle.ig_meta.proofs.results.shown_by.Goals as goal

pub returns-in-CacheNames : goal.returns-in-CacheNames
returns-in-CacheNames c = rw c.in-CacheNames.is (names_shown c.args.body.now c.args.at c.read_shown.result (c.read_shown.ensures (λ x. Out (outcome.Names x)) (λ x y p. search rules)))

pub returns-in-GetTypeName : goal.returns-in-GetTypeName
returns-in-GetTypeName c = rw c.in-GetTypeName.is (c.read_shown-in-GetTypeName.ensures (λ x. Out (outcome.Name x)) (λ x y p. search rules))

pub returns-in-RegisterTypeName : goal.returns-in-RegisterTypeName
returns-in-RegisterTypeName c = rw c.in-RegisterTypeName.is (c.read_shown-in-RegisterTypeName.ensures (λ x. Out (outcome.Yes x)) (λ x y p. search rules))

pub returns-in-GetType : goal.returns-in-GetType
returns-in-GetType c = rw c.in-GetType.is (found_shown c.args.body.now c.args.at c.read_shown-in-GetType.result (c.read_shown-in-GetType.ensures (λ x. Out (outcome.Meta (type_in x))) (λ x y p. search rules)))
