use Rattle.std.proofs.Common.{◌∙◌, ap, ◌+◌, ◌++◌, List, ℕ, length, arith}
use Rattle.ig_wire.specs.Fields.{string}
use Rattle.ig_wire.proofs.WriteLemmas.{on_ok, hello_framed, login_framed}
use Rattle.ig_wire.proofs.hello_writing.put_hello.Goals as goal

pub returns-in_ok-put_len-in-None : goal.returns-in_ok-put_len-in-None
returns-in_ok-put_len-in-None c = rw c.in-None.is (on_ok c.put_start.result c.put_start.ensures (hello_framed c.args.out.now c.put_len.new.out c.put_start.new.out c.args.version c.in_ok-put_len-in-None.ensures))

pub returns-in_ok-put_string-in-Some : goal.returns-in_ok-put_string-in-Some
returns-in_ok-put_string-in-Some c =
    let name = ap string c.as_str-name.ensures in
    let password = ap string c.as_str-password.ensures in
    rw c.in-Some.is (on_ok c.put_string-in-Some.result c.put_string-in-Some.ensures (λ e.
    login_framed c.args.out.now c.put_len-in-Some.new.out c.put_start-in-Some.new.out c.put_string.new.out c.put_string-in-Some.new.out c.args.version c.in-Some.login.now (8 + c.string_len.result + c.string_len-in-Some.result)
    (omega (arith, c.string_len.ensures.exact, c.string_len-in-Some.ensures.exact, ap length name, ap length password)) c.in_ok-put_len-in-Some.ensures c.in_ok-put_start-in-Some.ensures
    (c.in_ok-put_string-in-Some.ensures ∙ ap (λ (l : List ℕ). c.put_start-in-Some.new.out ++ l) name) (e ∙ ap (λ (l : List ℕ). c.put_string.new.out ++ l) password)))
