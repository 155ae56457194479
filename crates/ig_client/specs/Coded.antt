-- What contracts see of a channel without its link, as plain data, which a larger value can contain.
use Rattle.std.specs.Prelude.{ℕ, ℤ, List, Option, refl}
use Rattle.std.specs.Coded.{Coded, code_by, coded×, coded_ℕ, coded_ℤ, coded_list, coded_option}
use Rattle.std.specs.FinMap as map
use Rattle.ig_client.specs.declared.fault.Break.{Break}
use Rattle.ig_client.specs.contracts.fault.Break as break
use Rattle.ig_client.specs.PendingState.{PendingState, Replies}

abbrev pub coded_pending : Coded PendingState
coded_pending =
    code_by (ℕ × (ℕ × (ℕ × (Replies × (ℕ × (List ℕ × (ℕ × Option Break)))))))
    (coded× coded_ℕ (coded× coded_ℕ (coded× coded_ℕ (coded× (map.code coded_ℤ (coded_option (coded_list coded_ℕ)))
    (coded× coded_ℕ (coded× (coded_list coded_ℕ) (coded× coded_ℕ (coded_option break.the_row.coded))))))))
    (λ c. (c.least, (c.last, (c.waiting, (c.replies, (c.place, (c.part, (c.room, c.down))))))))
    (λ p. record {
      least = p.0;
      last = p.1.0;
      waiting = p.1.1.0;
      replies = p.1.1.1.0;
      place = p.1.1.1.1.0;
      part = p.1.1.1.1.1.0;
      room = p.1.1.1.1.1.1.0;
      down = p.1.1.1.1.1.1.1;
    })
    (λ _. refl)
