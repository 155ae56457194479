-- Whatever a channel stands for it may have been asked and answered, and so it may each prefix of that.
use Rattle.std.specs.Prelude.{refl, ℕ, List, [], ◌∷◌, ◌++◌}
use Rattle.ig_client.specs.Pairs.{Pair}
use Rattle.ig_client.specs.ChannelRun.{Runs, EachFollows, given}
use Rattle.ig_client.specs.declared.ask.ChannelStart.{ChannelStart}

pub each_front : (start : ChannelStart) (last : List ℕ) (before ps more : List Pair) → EachFollows start last before (ps ++ more) → EachFollows start last before ps
each_front start last before [] more each = tt
each_front start last before (p ∷ ps) more each = (each.0, each_front start last (before ++ p ∷ []) ps more each.1)

pub runs_front : (start : ChannelStart) (ps more : List Pair) → Runs start (ps ++ more) → Runs start ps
runs_front start ps more runs =
    let last : List ℕ = runs.1.last in
    (given last ps, record { last = last; given_are = refl; each = each_front start last [] ps more runs.1.each })
