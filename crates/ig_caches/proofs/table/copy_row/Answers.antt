use Rattle.std.proofs.Common.{◌≡◌, sym, subst, append-nil, [], IfOk}
use Rattle.ig_value.specs.declared.value.Value.{Value}
use Rattle.ig_caches.specs.RowEntries.{key_of}
use Rattle.ig_caches.proofs.table.copy_row.Goals as goal

pub returns : goal.returns
returns c =
    let read : c.in-Ok.field-0.value ≡ key_of c.args.form.now = (c.in-Ok.ensures.found c.args.form.now [] (key_of c.args.form.now) (sym (append-nil c.args.form.now)) c.requires).0 in
    subst (λ (k : Value). IfOk c.with_copy.result (λ row. row ≡ record { key = k; value = c.args.value.now })) read c.with_copy.ensures
