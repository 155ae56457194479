use Rattle.ig_base.proofs.FrameLemmas.{front-Frame, front-reads, front-within, front-bad, front-out, front-short, front-begun, front-some-missing, front-fewer, front-known, front-completed}
use Rattle.ig_base.proofs.frames.frame_is_read.Goals as goal

pub returns : goal.returns
returns c = record {
  whole = λ least limit body more small is. front-Frame least limit body more small is;
  found = front-reads;
  within = front-within;
  refused = front-bad;
  out_of_range = front-out;
  short = front-short;
  begun = front-begun;
  some_missing = front-some-missing;
  fewer = front-fewer;
  known = front-known;
  completed = front-completed;
}
