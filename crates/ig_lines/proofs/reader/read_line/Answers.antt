use Rattle.std.proofs.Common.{◌≡◌, ℕ, ◌+◌, ◌-◌, ◌≤◌, List, length, Ok, Err, subst, arith}
use Rattle.ig_text.specs.declared.fault.ReadError.{ReadError}
use Rattle.ig_text.specs.declared.fault.TextFault.TheVariants as fault
use Rattle.ig_text.specs.ReaderAnswers.{Fails}
use Rattle.ig_text.proofs.WholeLemmas.{none_left, some_left}
use Rattle.ig_lines.specs.ReadLine.{line_at, IsLineResult}
use Rattle.ig_lines.proofs.LineLemmas.{whole_result}
use Rattle.ig_lines.proofs.ReadLineLemmas.{rest_within, left_within, all_read, more_there, part_wrong}
use Rattle.ig_lines.proofs.reader.read_line.Goals as goal

pub overflow_sub-result : goal.overflow_sub-result
overflow_sub-result c = rest_within c.args.text.now c.in-Ok.rest.now c.in-Ok.line c.in-Ok.ensures

pub overflow_sub-result-in-Err-Bad : goal.overflow_sub-result-in-Err-Bad
overflow_sub-result-in-Err-Bad c =
    let s : List ℕ = c.args.text.now in
    let read : line_at s ≡ Err c.in-Err-Bad.left = subst (λ (e : ReadError). Fails e (line_at s)) c.in-Err-Bad.field-0-is c.in-Err-Bad.ensures in
    left_within s c.in-Err-Bad.left read

pub returns-then-is_empty : goal.returns-then-is_empty
returns-then-is_empty c =
    let s : List ℕ = c.args.text.now in
    let whole : IsLineResult s (Ok c.in-Ok.line) = all_read s c.in-Ok.rest.now c.in-Ok.line c.in-Ok.ensures (none_left c.in-Ok.rest.now c.if-is_empty.ensures) in
    record { is_text = whole_result s (Ok c.in-Ok.line) whole; place = whole }

pub returns-else-is_empty : goal.returns-else-is_empty
returns-else-is_empty c =
    let s : List ℕ = c.args.text.now in
    let rest : List ℕ = c.in-Ok.rest.now in
    let read : line_at s ≡ Ok (c.in-Ok.line, rest) = c.in-Ok.ensures in
    let place : ℕ = length s - length rest in
    let within : length rest ≤ length s = rest_within s rest c.in-Ok.line read in
    let size : (length s - length rest) + length rest ≡ length s = omega (arith, within) in
    let more : IsLineResult s (Err (fault.Bad place)) = more_there s rest c.in-Ok.line place read (some_left rest c.if-is_empty.ensures) size in
    record { is_text = whole_result s (Err (fault.Bad place)) more; place = more }

pub returns-in-Err-Bad : goal.returns-in-Err-Bad
returns-in-Err-Bad c =
    let s : List ℕ = c.args.text.now in
    let left : ℕ = c.in-Err-Bad.left in
    let read : line_at s ≡ Err c.in-Err-Bad.left = subst (λ (e : ReadError). Fails e (line_at s)) c.in-Err-Bad.field-0-is c.in-Err-Bad.ensures in
    let within : left ≤ length s = left_within s left read in
    let size : (length s - c.in-Err-Bad.left) + c.in-Err-Bad.left ≡ length s = omega (arith, within) in
    let wrong : IsLineResult s (Err (fault.Bad (length s - left))) = part_wrong s left (length s - left) read size in
    record { is_text = whole_result s (Err (fault.Bad (length s - left))) wrong; place = wrong }
