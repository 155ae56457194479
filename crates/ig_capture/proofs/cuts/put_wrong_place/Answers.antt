use Rattle.std.proofs.Common.{◌≡◌, ◌++◌, ℕ, List, ap, ◌∙◌}
use Rattle.std.proofs.lemmas.Result.{on_ok_weaker}
use Rattle.std.specs.Fmt.{decimal}
use Rattle.ig_capture.proofs.CutLemmas.{stream_wrong, message_wrong}
use Rattle.ig_capture.proofs.cuts.put_wrong_place.Goals as goal

pub returns-in_ok-append-in-Stream : goal.returns-in_ok-append-in-Stream
returns-in_ok-append-in-Stream c =
    on_ok_weaker c.put_number.result
    (λ (e : c.put_number.new.out ≡ c.append.new.self ++ decimal c.in-Stream.place).
    stream_wrong c.args.bad c.in-Stream.place c.args.out.now c.append.new.self c.put_number.new.out c.in-Stream.is c.in_ok-append-in-Stream.ensures.ok e) c.put_number.ensures

pub returns-in_ok-append-in-Message-4 : goal.returns-in_ok-append-in-Message-4
returns-in_ok-append-in-Message-4 c =
    on_ok_weaker c.put_number-in-Message-2.result
    (λ (e : c.put_number-in-Message-2.new.out ≡ c.append-in-Message-4.new.self ++ decimal c.in-Message.place).
    message_wrong c.args.bad c.in-Message.session c.in-Message.place c.in-Message.server c.args.out.now c.append-in-Message.new.self c.put_number-in-Message.new.out c.append-in-Message-2.new.self c.append-in-Message-3.new.self
    c.append-in-Message-4.new.self c.put_number-in-Message-2.new.out c.in-Message.is c.in_ok-append-in-Message.ensures.ok (c.in_ok-put_number-in-Message.ensures ∙ ap (λ (n : ℕ). c.append-in-Message.new.self ++ decimal n) c.from.ensures) c.in_ok-append-in-Message-2.ensures.ok
    (c.in_ok-append-in-Message-3.ensures.ok ∙ ap (λ (l : List ℕ). c.append-in-Message-2.new.self ++ l) c.side_name.ensures) c.in_ok-append-in-Message-4.ensures.ok e) c.put_number-in-Message-2.ensures
