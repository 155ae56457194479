use Rattle.std.proofs.Common.{◌≡◌, ◌∙◌, ap, sym, List, ℕ, length, arith}
use Rattle.ig_wire.specs.Fields.{string}
use Rattle.ig_wire.proofs.WriteLemmas.{length-hello-none, length-hello-some}
use Rattle.ig_wire.proofs.hello_writing.hello_len.Goals as goal

-- the length of a text that the call read
text_length : (a b : List ℕ) (n : ℕ) → n ≡ length (string a) → a ≡ b → n ≡ length (string b)
text_length a b n size same = size ∙ ap (λ (l : List ℕ). length (string l)) same

pub returns-in-None : goal.returns-in-None
returns-in-None c = λ v. rw c.in-None.is (sym (length-hello-none v))

pub returns-in-Some : goal.returns-in-Some
returns-in-Some c = λ v.
    let login = c.in-Some.login.now in
    let name = text_length c.as_str.result.now login.name c.string_len-name.result c.string_len-name.ensures.exact c.as_str.ensures in
    let password = text_length c.as_str-in-Some.result.now login.password c.string_len-password.result c.string_len-password.ensures.exact c.as_str-in-Some.ensures in
    rw c.in-Some.is (omega (arith, name, password, length-hello-some v login))
