use Rattle.std.proofs.Common.{◌≡◌, ◌++◌, ◌∷◌, [], ℕ, List, None, length, append-nil, ap, sym, subst, ◌∙◌, rules}
use Rattle.std.proofs.lemmas.List.{append_assoc, nil_from_length}
use Rattle.ig_caches.specs.PlainCaches.{PlainCaches, cache_of, id_of}
use Rattle.ig_caches.specs.AddsName.{with_cache, IsNameFault}
use Rattle.ig_caches.specs.Starts.{IsTakenAt, IsNowhere, IsStartFault}
use Rattle.ig_caches.proofs.StartLemmas.{fresh_push, distinct_push, name_fault}
use Rattle.ig_caches.proofs.caches.Caches.with_names.Goals as goal

pub loop-name-preserved : goal.loop-name-preserved
loop-name-preserved c =
    let names : List (List ℕ) = c.loop-name.yielded in
    record {
      fresh = c.in_ok-add_name.ensures.ok ∙ ap (λ (p : PlainCaches). with_cache p c.in-Some.name) c.loop-name.invariant.fresh ∙ fresh_push names c.in-Some.name;
      items = append_assoc names (c.in-Some.name ∷ []) c.next.new.self.rest.items ∙ ap (λ (ns : List (List ℕ)). names ++ ns) (sym c.in-Some.ensures.steps.0) ∙ c.loop-name.invariant.items;
      distinct = distinct_push names c.in-Some.name c.loop-name.invariant.distinct
          (subst (λ (p : PlainCaches). cache_of p.caches (id_of c.in-Some.name) ≡ None) c.loop-name.invariant.fresh c.in_ok-add_name.ensures.free);
    }

pub returns-in_err-add_name-clause-fault : goal.returns-in_err-add_name-clause-fault
returns-in_err-add_name-clause-fault c =
    let whole = ap (λ (ns : List (List ℕ)). c.loop-name.yielded ++ ns) (sym c.in-Some.ensures.steps.0) ∙ c.loop-name.invariant.items in
    let it : IsStartFault c.args.names.items c.in_err-add_name.field-0.0 =
    name_fault c.args.names.items c.loop-name.yielded c.next.new.self.rest.items c.in-Some.name c.in_err-add_name.field-0.0 whole c.requires.few c.requires.no_empty c.loop-name.invariant.distinct
    (subst (λ (p : PlainCaches). IsNameFault p.caches c.in-Some.name c.in_err-add_name.field-0.0) c.loop-name.invariant.fresh c.in_err-add_name.ensures.fault) in
    search rules

pub returns-clause-starts : goal.returns-clause-starts
returns-clause-starts c =
    let none : length c.loop-name.name-iterator.rest.items ≡ 0 = sym c.loop-name.name-iterator.rest.ok.0 ∙ c.in-None.ensures.steps.0 in
    let all : c.loop-name.yielded ≡ c.args.names.items =
    sym (append-nil c.loop-name.yielded) ∙ ap (λ (ns : List (List ℕ)). c.loop-name.yielded ++ ns) (sym (nil_from_length c.loop-name.name-iterator.rest.items none)) ∙ c.loop-name.invariant.items in
    record {
      few = c.requires.few;
      no_empty = c.requires.no_empty;
      distinct = subst (λ (ns : List (List ℕ)). IsNowhere (IsTakenAt ns)) all c.loop-name.invariant.distinct;
    }
