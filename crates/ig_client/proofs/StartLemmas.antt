-- What a channel stands for at its start.
use Rattle.std.proofs.Common.{◌≡◌, cond, ℕ, ◌+◌, ◌<◌, ◌≤◌, ◌&&◌, ℤ, pos, negsuc, Bool, true, false, List, [], Option, None, Some, inl, refl, sym, ap, subst, ◌∙◌, arith}
use Rattle.std.proofs.KnownBytes.{Appends-nil, Consumes-nil}
use Rattle.std.proofs.lemmas.Bool.{cond-true, cond-false, false_from_ne_true, false≢true, and_parts, leb-true, ltb-true}
use Rattle.std.specs.Prelude.{nat_lt, nat_le}
use Rattle.std.specs.Ordering.{int_cmp}
use Rattle.std.specs.FinMap as map
use Rattle.std.specs.Io.KnownBytes.{Appends, Consumes}
use Rattle.ig_base.specs.Frames.{max_body}
use Rattle.ig_base.proofs.FrameLemmas.{front-short}
use Rattle.ig_link.specs.States.{SourceState, SinkState}
use Rattle.ig_wire.specs.Versions.{server_side}
use Rattle.ig_wire.specs.declared.Version.{Version}
use Rattle.ig_client.specs.PendingState.{PendingState, no_calls}
use Rattle.ig_client.specs.Cutting.{cut, was_made}
use Rattle.ig_client.specs.Pairs.{was_taken}
use Rattle.ig_client.specs.ChannelRun.{least_of}
use Rattle.ig_client.specs.Stands.{KeepsCalls, Keeps, SourceIs, SinkIs, ChannelStands, start_with}
use Rattle.ig_client.specs.declared.ask.ChannelStart.{ChannelStart}
use Rattle.ig_client.proofs.StandLemmas.{keeps_unbroken}

none_made : (id : ℤ) → was_made 0 id ≡ false
none_made (negsuc k) = refl
none_made (pos k) = false_from_ne_true (was_made 0 (pos k)) (λ t.
    let parts : (nat_lt 0 k ≡ true) × (nat_le k 0 ≡ true) = and_parts (nat_lt 0 k) (nat_le k 0) t in
    absurd (omega (arith, ltb-true 0 k parts.0, leb-true k 0 parts.1)))

keeps_nothing : (least : ℕ) → KeepsCalls least 0 (cut least []) (λ id. was_taken id []) (no_calls least)
keeps_nothing least = record {
  last_is = refl;
  waiting = refl;
  calls = λ id. map.get-empty int_cmp id ∙ sym (cond-false (was_made 0 id) (Some None) None (none_made id));
  all_asked = refl;
  took = λ id t. absurd (false≢true t);
  place = refl;
  part = refl;
  missing = (4, front-short least max_body [] (omega arith));
}

source_starts : (start : ChannelStart) (source : SourceState) → start.taken ≡ source.taken → start.left ≡ source.left → start.read_faults ≡ source.faults
    → start.pauses ≡ source.pauses → start.reads_hold ≡ source.holds → SourceIs start [] [] source
source_starts start source taken left faults pauses holds = record {
  reads = λ t. absurd (false≢true t);
  ended = λ t. absurd (false≢true t);
  pauses = inl (omega (arith, pauses));
  taken = subst (λ (o : Option (List ℕ)). Appends o source.taken []) (sym taken) (Appends-nil source.taken);
  left = subst (λ (o : Option (List ℕ)). Consumes o source.left []) (sym left) (Consumes-nil source.left);
  untold = λ e. sym left ∙ e;
  faults = omega (arith, faults);
  holds = λ h. sym holds ∙ h;
}

sink_starts : (start : ChannelStart) (sink : SinkState) → start.written ≡ cond sink.tells sink.written None → start.write_faults ≡ sink.faults → start.writes_hold ≡ sink.holds
    → SinkIs start [] sink
sink_starts start sink written faults holds = record {
  writes = λ t. absurd (false≢true t);
  written = λ tells. (
    [],
    ([], [], refl, refl),
    subst (λ (o : Option (List ℕ)). Appends o sink.written []) (sym (written ∙ cond-true sink.tells sink.written None tells)) (Appends-nil sink.written),
  );
  faults = omega (arith, faults);
  holds = λ h. sym holds ∙ h;
}

-- no call was made yet
pub stands_start : {L : Type 0} (source : L → SourceState) (sink : L → SinkState) (version : Version) (c : PendingState) (link : L) → c ≡ no_calls (server_side version).later
    → ChannelStands source sink c (Some link) (start_with version (source link) (sink link)) []
stands_start source sink version c link is = record {
  bytes = [];
  last = [];
  given_are = refl;
  each = λ l e. tt;
  keeps = subst (Keeps (start_with version (source link) (sink link)) [] []) (sym is)
      (keeps_unbroken (start_with version (source link) (sink link)) [] [] (no_calls (least_of (start_with version (source link) (sink link)))) refl refl (λ i. omega arith) (keeps_nothing (least_of (start_with version (source link) (sink link)))));
  link_is = (
    refl,
    source_starts (start_with version (source link) (sink link)) (source link) refl refl refl refl refl,
    sink_starts (start_with version (source link) (sink link)) (sink link) refl refl refl,
  );
}
