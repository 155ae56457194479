use Rattle.std.proofs.Common.{◌≤◌, take, vec_len}
use Rattle.ig_caches.specs.RowEntries.{rows_of_entries}
use Rattle.ig_caches.specs.Reserved.{Reserves, AllStand}
use Rattle.ig_caches.proofs.reserve.reserve_all.Given as goal

-- the keys so far have a row, and the room is long enough for each
abbrev pub invariant-loop-pair : goal.invariant-loop-pair
invariant-loop-pair l = record {
  longer : vec_len l.fn.room ≤ vec_len l.room;
  reserves : Reserves (vec_len l.room) (rows_of_entries (λ k. k.items) l.fn.rows.entries) (rows_of_entries (λ k. k.items) l.rows.entries) l.pairs;
  stand : AllStand (vec_len l.room) (rows_of_entries (λ k. k.items) l.rows.entries) (take l.pair-index l.pairs);
}
