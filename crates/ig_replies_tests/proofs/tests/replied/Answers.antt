use Rattle.std.proofs.Common.{pos, Some, None, to_z, of_z, w64}
use Rattle.std.specs.Prelude.{Ok}
use Rattle.ig_caches.specs.declared.answer.Outcome.TheVariants.{Pairs}
use Rattle.ig_caches.specs.declared.request.Request.TheVariants.{Scan, NextPage, Close}
use Rattle.ig_deals.specs.Deals.{Had}
use Rattle.ig_deals.specs.Turns.{no_memory}
use Rattle.ig_replies.specs.RunTerms.{terms_of}
use Rattle.ig_replies_tests.proofs.TestLemmas.{fresh, fresh_if, stays, stays_if}
use Rattle.ig_replies_tests.proofs.tests.replied.Goals as goal

pub returns-in-page-clause-desk : goal.returns-in-page-clause-desk
returns-in-page-clause-desk c =
    stays_if (terms_of c.args.terms.now) c.args.desk.now c.next_page.new.desk (to_z w64 (of_z w64 c.args.id)) (Ok (NextPage (pos 1))) None
    c.next_page.result c.next_page.ensures.ok c.requires.numbers.kept

pub returns-in-close-clause-desk : goal.returns-in-close-clause-desk
returns-in-close-clause-desk c =
    stays (terms_of c.args.terms.now) c.args.desk.now c.close.new.desk (to_z w64 (of_z w64 c.args.id)) (Ok (Close (pos 2))) None
    c.close.result c.close.ensures c.requires.numbers.kept

pub returns-in-text-clause-fresh : goal.returns-in-text-clause-fresh
returns-in-text-clause-fresh c =
    fresh (terms_of c.args.terms.now) (no_memory (terms_of c.args.terms.now) c.args.desk.now (to_z w64 (of_z w64 c.args.id)))
    c.lacks_memory.result c.args.desk.now (c.lacks_memory.ensures c.args.desk.now)

pub returns-in-unread-clause-fresh : goal.returns-in-unread-clause-fresh
returns-in-unread-clause-fresh c = fresh_if (terms_of c.args.terms.now) _ c.args.desk.now c.refuse.result c.refuse.ensures

pub returns-in-scan-clause-desk : goal.returns-in-scan-clause-desk
returns-in-scan-clause-desk c =
    stays_if (terms_of c.args.terms.now) c.args.desk.now c.answer_scan.new.desk (to_z w64 (of_z w64 c.args.id)) (Ok (Scan (pos 7) (pos 2)))
    (Some (Had (record { minor = pos 0; outcome = Pairs c.in_ok-rows_to-in-scan.field-0 }))) c.answer_scan.result c.answer_scan.ensures.ok c.requires.numbers.kept
