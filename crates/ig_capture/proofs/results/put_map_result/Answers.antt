use Rattle.ig_parts.specs.PartsMessages.{map_form}
use Rattle.ig_lines.specs.ShownText.{MapText}
use Rattle.ig_capture.proofs.ContentLemmas.{content_shown, content_stopped}
use Rattle.ig_capture.proofs.results.put_map_result.Goals as goal

pub returns-in_ok-write_map-in-Ok : goal.returns-in_ok-write_map-in-Ok
returns-in_ok-write_map-in-Ok c =
    content_shown MapText map_form c.args.place c.args.body.now c.args.at c.in-Ok.map c.args.text.now c.write_map.new.out c.in-Ok.ensures.reads c.in_ok-write_map-in-Ok.ensures.ok

pub returns-in-Err : goal.returns-in-Err
returns-in-Err c =
    content_stopped MapText map_form c.args.place c.args.body.now c.args.at c.in-Err.fault c.of.result c.args.text.now c.args.text.now c.in-Err.ensures.reads c.of.ensures
