use Rattle.std.proofs.Common.{◌≡◌, ℤ, Ok, refl, ap, rules, to_z, of_z, w64}
use Rattle.ig_caches.specs.declared.request.Request.TheVariants.{NextPage}
use Rattle.ig_replies.specs.RunTerms.{terms_of}
use Rattle.ig_session.proofs.SoundLemmas.{has_numbers}
use Rattle.ig_session.proofs.ChangeLemmas.{turned_fresh}
use Rattle.ig_session.proofs.ReplyLemmas.{paged_sound, same_desk_sound, same_desk, held_alone, said_now, on_err}
use Rattle.ig_session.proofs.session.Session.turn_page.Goals as goal

pub next_page-requires : goal.next_page-requires
next_page-requires c = has_numbers _ c.self.invariant

pub invariant_of-self : goal.invariant_of-self
invariant_of-self c = same_desk_sound _ c.next_page.new.desk c.in_err-frame.ensures.err c.self.invariant

pub returns-in_err-frame-clause-err : goal.returns-in_err-frame-clause-err
returns-in_err-frame-clause-err c = on_err c.from_residual.result (same_desk _ _ c.self.view_is c.next_page.new.desk c.in_err-frame.ensures.err)

pub invariant_of-self-2 : goal.invariant_of-self-2
invariant_of-self-2 c = paged_sound _ c.args.terms (to_z w64 (of_z w64 c.args.id)) (to_z w64 (of_z w64 c.args.cursor)) c.in_ok-frame.frame c.next_page.new.desk c.in_ok-frame.ensures.ok c.self.invariant

pub say-requires-clause-none : goal.say-requires-clause-none
say-requires-clause-none c = held_alone _ _ c.self.view_is c.args.terms c.args.id (Ok (NextPage c.args.cursor)) c.requires

pub say-requires-clause-shown : goal.say-requires-clause-shown
say-requires-clause-shown c = turned_fresh (terms_of c.args.terms) _ c.in_ok-frame.frame c.next_page.new.desk c.in_ok-frame.ensures.ok

pub returns-clause-ok : goal.returns-clause-ok
returns-clause-ok c =
    let id : to_z w64 (of_z w64 c.args.id) ≡ c.args.id = search rules in
    let cursor : to_z w64 (of_z w64 c.args.cursor) ≡ c.args.cursor = search rules in
    said_now _ _ c.self.view_is c.say.new.self c.args.terms c.args.id (to_z w64 (of_z w64 c.args.id)) (Ok (NextPage c.args.cursor)) (Ok (NextPage (to_z w64 (of_z w64 c.args.cursor))))
    c.in_ok-frame.frame c.next_page.new.desk id (ap (λ (k : ℤ). Ok (NextPage k)) cursor) refl c.in_ok-frame.ensures.ok c.say.ensures
