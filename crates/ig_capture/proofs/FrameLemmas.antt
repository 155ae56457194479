-- Hearing one frame of a side.
use Rattle.std.proofs.Common.{◌≡◌, ℕ, ℤ, ◌<◌, Bool, true, false, List, [], ◌++◌, length, Result, Ok, Err, refl, sym, ap, subst, ◌∙◌, append-nil}
use Rattle.ig_base.specs.Frames.{Front, Body, Bad, Incomplete}
use Rattle.ig_frame.specs.Streams.{Stream, front_at, stream_after, stream_after_frame}
use Rattle.ig_capture.specs.declared.fault.CaptureBad.{CaptureBad}
use Rattle.ig_capture.specs.declared.fault.CaptureBad.TheVariants as bad
use Rattle.ig_capture.specs.declared.fault.CaptureFault.{CaptureFault}
use Rattle.ig_capture.specs.declared.fault.CaptureFault.TheVariants as fault
use Rattle.ig_capture.specs.Said.{Said, silent, and_then}
use Rattle.ig_capture.specs.Talks.{Talk, message, least}
use Rattle.ig_capture.specs.Sessions.{Side, step_line, hear}
use Rattle.ig_capture.specs.Answers.{ShowsLines, HearsFrame}
use Rattle.ig_capture.proofs.FrontLemmas.{front_shorter}
use Rattle.ig_capture.proofs.HearLemmas.{by_front}

module _ (session : ℕ) (server : Bool) (stream : Stream) (talk : Talk) where
  abbrev this : Side
  this = record { stream = stream; talk = talk }

  -- no whole frame is there
  pub hears_none : (n : ℕ) (lines : List ℕ) → front_at (least server talk.phase) stream ≡ Incomplete n → HearsFrame session server this this lines lines (Ok false)
  hears_none n lines found = (by_front session server this (Incomplete n) found, refl, refl)

  -- its length is out of range
  pub hears_bad : (next : Side) (n : ℤ) (lines : List ℕ) → front_at (least server talk.phase) stream ≡ Bad n
      → HearsFrame session server this next lines lines (Err (fault.Bad (bad.Message session server stream.place)))
  hears_bad next n lines found = ([], by_front session server this (Bad n) found, sym (append-nil lines))

  -- the frame that is there
  module _ (body rest : List ℕ) (found : front_at (least server talk.phase) stream ≡ Body body rest) (talk' : Talk) (lines lines' : List ℕ) where
    abbrev after : Stream
    after = stream_after stream (Body body rest)

    pub passes : stream_after_frame (least server talk.phase) stream ≡ after
    unfolding stream_after_frame
    passes = ap (stream_after stream) found

    abbrev Shows : Result (Unit {0}) CaptureFault → Type 0
    Shows result = ShowsLines (step_line session server after (message talk server stream.place body)) (record { stream = after; talk = talk' }) lines lines' result

    pub hears_frame : (frames : Stream) → frames ≡ stream_after_frame (least server talk.phase) stream → Shows (Ok tt) → HearsFrame session server this (record { stream = frames; talk = talk' }) lines lines' (Ok true)
    hears_frame frames passed shows =
        subst (λ (s : Stream). HearsFrame session server this (record { stream = s; talk = talk' }) lines lines' (Ok true)) (sym (passed ∙ passes)) (
          shows.0,
          by_front session server this (Body body rest) found ∙ ap (λ (s : Said Side CaptureBad). and_then s (hear session server)) shows.1,
          shows.2,
          front_shorter (least server talk.phase) stream.limit stream.rest body rest found,
        )

    pub hears_wrong : (next : Side) (e : CaptureFault) → Shows (Err e) → HearsFrame session server this next lines lines' (Err e)
    hears_wrong next (fault.Bad why) shows =
        (shows.0, by_front session server this (Body body rest) found ∙ ap (λ (s : Said Side CaptureBad). and_then s (hear session server)) shows.1, shows.2)
    hears_wrong next fault.NoMemory shows = tt

  -- ---- the same by what a look found

  pub bad_here : (next : Side) (k : ℕ) (n : ℤ) (place : ℕ) (lines : List ℕ) → k ≡ least server talk.phase → place ≡ stream.place → front_at k stream ≡ Bad n
      → HearsFrame session server this next lines lines (Err (fault.Bad (bad.Message session server place)))
  bad_here next k n place lines is at found =
      subst (λ (p : ℕ). HearsFrame session server this next lines lines (Err (fault.Bad (bad.Message session server p)))) (sym at)
      (hears_bad next n lines (ap (λ (j : ℕ). front_at j stream) (sym is) ∙ found))

  module _ (k place : ℕ) (body rest : List ℕ) (is : k ≡ least server talk.phase) (at : place ≡ stream.place) (found : front_at k stream ≡ Body body rest) (talk' : Talk) (lines lines' : List ℕ) where
    abbrev ShowsAt : Result (Unit {0}) CaptureFault → Type 0
    ShowsAt result = (s : Stream) → ShowsLines (step_line session server s (message talk server place body)) (record { stream = s; talk = talk' }) lines lines' result

    found_least : front_at (least server talk.phase) stream ≡ Body body rest
    found_least = ap (λ (j : ℕ). front_at j stream) (sym is) ∙ found

    shown_there : (result : Result (Unit {0}) CaptureFault) → ShowsAt result → Shows body rest found_least talk' lines lines' result
    shown_there result shows =
        subst (λ (p : ℕ). ShowsLines (step_line session server (stream_after stream (Body body rest)) (message talk server p body)) (record { stream = stream_after stream (Body body rest); talk = talk' }) lines lines' result) at
        (shows (stream_after stream (Body body rest)))

    pub frame_here : (frames : Stream) → frames ≡ stream_after_frame k stream → ShowsAt (Ok tt) → HearsFrame session server this (record { stream = frames; talk = talk' }) lines lines' (Ok true)
    frame_here frames passed shows =
        hears_frame body rest found_least talk' lines lines' frames (passed ∙ ap (λ (j : ℕ). stream_after_frame j stream) is) (shown_there (Ok tt) shows)

    pub wrong_here : (next : Side) (e : CaptureFault) → ShowsAt (Err e) → HearsFrame session server this next lines lines' (Err e)
    wrong_here next e shows = hears_wrong body rest found_least talk' lines lines' next e (shown_there (Err e) shows)

-- a frame that is passed leaves the limit
after_limit : (s : Stream) (f : Front) → (stream_after s f).limit ≡ s.limit
after_limit s (Body body rest) = refl
after_limit s (Bad n) = refl
after_limit s (Incomplete n) = refl

pub limit_stays : (k : ℕ) (s : Stream) → (stream_after_frame k s).limit ≡ s.limit
unfolding stream_after_frame
limit_stays k s = after_limit s (front_at k s)
