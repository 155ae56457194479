use Rattle.ig_text.proofs.DescriptionLemmas.{description_reads, description_tells_apart}
use Rattle.ig_text.proofs.laws.one_description.Goals as goal

pub returns : goal.returns
returns c = record {
  read = λ s rest m e. let t = description_reads.takes s m rest e in (t.fits, t.whole);
  again = λ m rest fits ends. description_reads.again m rest fits ends;
  apart = description_tells_apart;
}
