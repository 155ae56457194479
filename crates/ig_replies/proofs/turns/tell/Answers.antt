use Rattle.std.proofs.Common.{◌≡◌, ℤ, Option, sym, ap, subst, ◌∙◌, None, to_z, of_z, w32, w64}
use Rattle.std.proofs.lemmas.Int.{to_z-of_z}
use Rattle.ig_base.specs.declared.Topology.{Topology}
use Rattle.ig_wire.specs.Versions.{has_flags}
use Rattle.ig_wire.specs.Heads.{MayTell}
use Rattle.ig_deals.specs.Desk.{Desk}
use Rattle.ig_deals.specs.Replies.{reply_frame, shortened}
use Rattle.ig_deals.specs.Telling.{tells, told_after}
use Rattle.ig_replies.specs.Contents.{content_said}
use Rattle.ig_replies.specs.Showing.{Showing, showing}
use Rattle.ig_replies.proofs.TurnLemmas.{tells_rightly}
use Rattle.ig_replies.proofs.turns.tell.Goals as goal

pub new-requires : goal.new-requires
new-requires c =
    let minor : to_z w32 (of_z w32 c.args.minor) ≡ c.args.minor = to_z-of_z w32 c.args.minor c.ranges.minor in
    let told : c.tell-told.result ≡ tells c.args.terms.now.manner c.args.desk.now.told c.args.minor =
    c.tell-told.ensures.told ∙ ap (tells c.args.terms.now.manner c.args.desk.now.told) minor in
    record {
      told = subst (λ (o : Option Topology). MayTell (has_flags c.args.terms.now.version) o None) (sym told)
          (tells_rightly (has_flags c.args.terms.now.version) c.args.terms.now.manner c.args.desk.now.told c.args.minor c.requires.right.silent);
      text = c.requires.text;
    }

pub returns : goal.returns
returns c =
    let shown : ℤ → Option Topology → Showing = λ i o.
    showing (reply_frame c.args.terms.now.version (shortened c.args.terms.now.version (record { id = i; told = o; content = content_said c.args.content }))) in
    let minor : to_z w32 (of_z w32 c.args.minor) ≡ c.args.minor = to_z-of_z w32 c.args.minor c.ranges.minor in
    let told : c.tell-told.result ≡ tells c.args.terms.now.manner c.args.desk.now.told c.args.minor =
    c.tell-told.ensures.told ∙ ap (tells c.args.terms.now.manner c.args.desk.now.told) minor in
    let noted : c.tell-told.new.self ≡ record c.args.desk.now { told = told_after c.args.terms.now.manner c.args.desk.now.told c.args.minor } =
    c.tell-told.ensures.noted ∙ ap (λ (m : ℤ). record c.args.desk.now { told = told_after c.args.terms.now.manner c.args.desk.now.told m }) minor in
    record {
      frame_is = c.new.ensures.frame ∙ ap (λ (i : ℤ). shown i c.tell-told.result) (to_z-of_z w64 c.args.id c.ranges.id)
          ∙ ap (shown c.args.id) told;
      desk_is = noted;
    }
