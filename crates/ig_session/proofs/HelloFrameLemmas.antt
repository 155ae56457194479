-- The frames of the replies to hellos: they may be written, and are short.
use Rattle.std.proofs.Common.{◌≡◌, ℕ, ◌+◌, ◌<◌, ◌≤◌, pos, Bool, true, false, List, [], ◌∷◌, ◌++◌, length, Option, None, Some, Err, refl, sym, ap, ◌∙◌, subst, arith, length-append}
use Rattle.std.specs.Prelude.{codes, if◌then◌else◌}
use Rattle.std.specs.Int.{w32}
use Rattle.ig_base.specs.declared.NodeId.{NodeId}
use Rattle.ig_base.specs.Numbers.{LE}
use Rattle.ig_base.specs.Frames.{max_body, Frame}
use Rattle.ig_base.proofs.FrameLemmas.{length-Frame}
use Rattle.ig_wire.specs.Limits.{piece_bytes}
use Rattle.ig_wire.specs.Fields.{string}
use Rattle.ig_wire.specs.Versions.{highest_version, has_flags}
use Rattle.ig_wire.specs.HelloFaults.{fault_text}
use Rattle.ig_wire.specs.HelloReplies.{node_bytes, hello_reply_bytes, HasNodeAt, MayWrite}
use Rattle.ig_wire.specs.declared.version.Version.{Version}
use Rattle.ig_wire.specs.declared.hello.HelloFault.{HelloFault}
use Rattle.ig_wire.specs.declared.hello.HelloFault.TheVariants as hello_fault
use Rattle.ig_wire.specs.declared.hello_reply.HelloReply.TheVariants.{Accepted, Refused}
use Rattle.ig_wire.proofs.WriteLemmas.{length-refused}
use Rattle.ig_parts.specs.ServedMap.{node_id}
use Rattle.ig_deals.specs.declared.cfg.SessionCfg.{SessionCfg}
use Rattle.ig_deals.specs.Hellos.{named_node}
use Rattle.ig_session.specs.Steps.{greeting_frame, acceptance_frame}

-- ---- accepted hellos

length-node : (node : NodeId) → length (node_bytes (Some node)) ≡ 17
unfolding LE
length-node node = refl

accepted_by : (b : Bool) (node : NodeId) → length (hello_reply_bytes (Accepted (if b then Some node else None))) ≤ 18
accepted_by true node = omega (arith, length-node node)
accepted_by false node = omega arith

pub accepted_short : (cfg : SessionCfg) (v : Version) → length (hello_reply_bytes (Accepted (named_node cfg v))) ≤ 18
accepted_short cfg v = accepted_by (has_flags v) (node_id cfg.node)

has_node : (b : Bool) (v : Version) (node : NodeId) → has_flags v ≡ b → HasNodeAt v (if b then Some node else None)
has_node true v node e = e
has_node false v node e = e

pub may_accept : (cfg : SessionCfg) (v : Version) → MayWrite v (Accepted (named_node cfg v))
may_accept cfg v = has_node (has_flags v) v (node_id cfg.node) refl

pub accepted_small : (cfg : SessionCfg) (v : Version) → length (hello_reply_bytes (Accepted (named_node cfg v))) ≤ max_body
accepted_small cfg v = omega (arith, accepted_short cfg v)

pub acceptance_piece : (cfg : SessionCfg) (v : Version) → length (acceptance_frame cfg v) ≤ piece_bytes
acceptance_piece cfg v = omega (arith, length-Frame (hello_reply_bytes (Accepted (named_node cfg v))), accepted_short cfg v)

-- ---- refused hellos

text_short : (fault : HelloFault) → length (fault_text fault) ≤ 30
text_short (hello_fault.NotHello byte) = let n : length (codes "not a handshake") ≡ 15 = refl in omega (arith, n)
text_short (hello_fault.Version version) = let n : length (codes "unsupported version") ≡ 19 = refl in omega (arith, n)
text_short (hello_fault.ClientCode byte) = let n : length (codes "unsupported client code") ≡ 23 = refl in omega (arith, n)
text_short (hello_fault.Credentials place) = let n : length (codes "malformed handshake") ≡ 19 = refl in omega (arith, n)

string_length : (text : List ℕ) → length (string text) ≡ 5 + length text
unfolding LE
string_length text = omega (arith, length-append (LE w32 (pos (length text))) text)

pub refused_short : (fault : HelloFault) → length (hello_reply_bytes (Refused highest_version (fault_text fault) None)) ≤ 42
refused_short fault = omega (arith, length-refused highest_version (fault_text fault) None, string_length (fault_text fault), text_short fault)

pub refused_small : (fault : HelloFault) → length (hello_reply_bytes (Refused highest_version (fault_text fault) None)) ≤ max_body
refused_small fault = omega (arith, refused_short fault)

pub refusal_piece : (cfg : SessionCfg) (fault : HelloFault) → length (greeting_frame cfg (Err fault)) ≤ piece_bytes
refusal_piece cfg fault = omega (arith, length-Frame (hello_reply_bytes (Refused highest_version (fault_text fault) None)), refused_short fault)

-- ---- frames

-- a frame has some bytes
pub frame_some : (body frame : List ℕ) → frame ≡ Frame body → 0 < length frame
frame_some body frame is = omega (arith, ap length is, length-Frame body)
