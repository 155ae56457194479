use Rattle.std.proofs.Common.{◌≡◌, ℕ, ◌+◌, ◌-◌, ◌≤◌, List, [], length, Ok, Err, subst, arith}
use Rattle.ig_text.specs.declared.fault.ReadError.{ReadError}
use Rattle.ig_text.specs.declared.fault.TextFault.TheVariants as fault
use Rattle.ig_text.specs.ReadText.{value_at}
use Rattle.ig_text.specs.ReaderAnswers.{Fails, IsValueResult}
use Rattle.ig_text.proofs.WholeLemmas.{whole_result, rest_within, left_within, all_read, more_there, part_wrong, none_left, some_left}
use Rattle.ig_text.proofs.values.read_value.Goals as goal

pub overflow_sub-result : goal.overflow_sub-result
overflow_sub-result c = rest_within 32 c.args.text.now c.in-Ok.rest.now c.in-Ok.value c.in-Ok.ensures

pub overflow_sub-result-in-Err-Bad : goal.overflow_sub-result-in-Err-Bad
overflow_sub-result-in-Err-Bad c =
    let s : List ℕ = c.args.text.now in
    let read : value_at 32 s ≡ Err c.in-Err-Bad.left = subst (λ (e : ReadError). Fails e (value_at 32 s)) c.in-Err-Bad.field-0-is c.in-Err-Bad.ensures in
    left_within 32 s c.in-Err-Bad.left read

pub returns-then-is_empty : goal.returns-then-is_empty
returns-then-is_empty c =
    let s : List ℕ = c.args.text.now in
    let whole : IsValueResult s (Ok c.in-Ok.value) = all_read s c.in-Ok.rest.now c.in-Ok.value c.in-Ok.ensures (none_left c.in-Ok.rest.now c.if-is_empty.ensures) in
    record { is_text = whole_result s (Ok c.in-Ok.value) whole; place = whole }

pub returns-else-is_empty : goal.returns-else-is_empty
returns-else-is_empty c =
    let s : List ℕ = c.args.text.now in
    let rest : List ℕ = c.in-Ok.rest.now in
    let read : value_at 32 s ≡ Ok (c.in-Ok.value, rest) = c.in-Ok.ensures in
    let place : ℕ = length s - length rest in
    let within : length rest ≤ length s = rest_within 32 s rest c.in-Ok.value read in
    let size : (length s - length rest) + length rest ≡ length s = omega (arith, within) in
    let more : IsValueResult s (Err (fault.Bad place)) = more_there s rest c.in-Ok.value place read (some_left rest c.if-is_empty.ensures) size in
    record { is_text = whole_result s (Err (fault.Bad place)) more; place = more }

pub returns-in-Err-Bad : goal.returns-in-Err-Bad
returns-in-Err-Bad c =
    let s : List ℕ = c.args.text.now in
    let left : ℕ = c.in-Err-Bad.left in
    let read : value_at 32 s ≡ Err c.in-Err-Bad.left = subst (λ (e : ReadError). Fails e (value_at 32 s)) c.in-Err-Bad.field-0-is c.in-Err-Bad.ensures in
    let within : left ≤ length s = left_within 32 s left read in
    let size : (length s - c.in-Err-Bad.left) + c.in-Err-Bad.left ≡ length s = omega (arith, within) in
    let wrong : IsValueResult s (Err (fault.Bad (length s - left))) = part_wrong s left (length s - left) read size in
    record { is_text = whole_result s (Err (fault.Bad (length s - left))) wrong; place = wrong }
