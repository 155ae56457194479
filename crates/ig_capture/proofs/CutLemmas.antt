-- Writing what the end of a capture adds.
use Rattle.std.proofs.Common.{◌≡◌, ℕ, suc, ◌+◌, Bool, true, false, List, [], ◌∷◌, ◌++◌, length, drop, sym, ap, ◌∙◌, arith, append_assoc}
use Rattle.std.specs.Prelude.{codes}
use Rattle.std.specs.Fmt.{decimal}
use Rattle.ig_capture.specs.declared.fault.CaptureBad.{CaptureBad}
use Rattle.ig_capture.specs.declared.fault.CaptureBad.TheVariants as bad
use Rattle.ig_capture.specs.Sessions.{Session}
use Rattle.ig_capture.specs.EndText.{cut_line, cuts_from, side_text, wrong_text}

-- those of one session, and then of the others
pub cuts_step : (n : ℕ) (s : Session) (ss : List Session) (out out' out'' : List ℕ) → out' ≡ out ++ cut_line n false (length s.from_client.rest)
    → out'' ≡ out' ++ cut_line n true (length s.from_server.rest) → out'' ++ cuts_from (n + 1) ss ≡ out ++ cuts_from n (s ∷ ss)
cuts_step n s ss out out' out'' first second =
    let client = cut_line n false (length s.from_client.rest) in
    let server = cut_line n true (length s.from_server.rest) in
    ap (λ (l : List ℕ). l ++ cuts_from (n + 1) ss) (second ∙ ap (λ (l : List ℕ). l ++ server) first)
    ∙ append_assoc (out ++ client) server (cuts_from (n + 1) ss)
    ∙ append_assoc out client (server ++ cuts_from (n + 1) ss)

-- ---- what is malformed, part by part

pub stream_wrong : (why : CaptureBad) (place : ℕ) (o a z : List ℕ) → why ≡ bad.Stream place → a ≡ o ++ codes "malformed stream " → z ≡ a ++ decimal place → z ≡ o ++ wrong_text why
stream_wrong why place o a z is first second =
    second ∙ ap (λ (l : List ℕ). l ++ decimal place) first ∙ append_assoc o (codes "malformed stream ") (decimal place) ∙ ap (λ (w : CaptureBad). o ++ wrong_text w) (sym is)

pub message_wrong : (why : CaptureBad) (session place : ℕ) (server : Bool) (o a b d e f z : List ℕ) → why ≡ bad.Message session server place → a ≡ o ++ codes "malformed session " → b ≡ a ++ decimal session
    → d ≡ b ++ codes " side " → e ≡ d ++ side_text server → f ≡ e ++ codes " place " → z ≡ f ++ decimal place → z ≡ o ++ wrong_text why
message_wrong why session place server o a b d e f z is first second third fourth fifth sixth =
    let t6 : List ℕ = decimal place in
    let t5 : List ℕ = codes " place " ++ t6 in
    let t4 : List ℕ = side_text server ++ t5 in
    let t3 : List ℕ = codes " side " ++ t4 in
    let t2 : List ℕ = decimal session ++ t3 in
    sixth
    ∙ ap (λ (l : List ℕ). l ++ t6) fifth ∙ append_assoc e (codes " place ") t6
    ∙ ap (λ (l : List ℕ). l ++ t5) fourth ∙ append_assoc d (side_text server) t5
    ∙ ap (λ (l : List ℕ). l ++ t4) third ∙ append_assoc b (codes " side ") t4
    ∙ ap (λ (l : List ℕ). l ++ t3) second ∙ append_assoc a (decimal session) t3
    ∙ ap (λ (l : List ℕ). l ++ t2) first ∙ append_assoc o (codes "malformed session ") t2
    ∙ ap (λ (w : CaptureBad). o ++ wrong_text w) (sym is)
