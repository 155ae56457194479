use Rattle.ig_deals.proofs.PageLemmas.{pages_are_rows, first_page_is_first}
use Rattle.ig_deals.proofs.DeskLemmas.{desks_stay, fresh_is_desk}
use Rattle.ig_deals.proofs.laws.pages_are_rows.Goals as goal

pub returns : goal.returns
returns c = record { pages = pages_are_rows; first = first_page_is_first; desks = desks_stay; fresh = fresh_is_desk }
