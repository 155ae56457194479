-- The hello that opens a session, and the reply to it.
use Rattle.std.specs.Prelude.{ℕ, List, Option, None, Some, Result, Ok, Err, if◌then◌else◌}
use Rattle.ig_base.specs.declared.NodeId.{NodeId}
use Rattle.ig_base.specs.Frames.{Frame}
use Rattle.ig_wire.specs.declared.version.Version.{Version}
use Rattle.ig_wire.specs.declared.hello.Hello.{Hello}
use Rattle.ig_wire.specs.declared.hello.HelloFault.{HelloFault}
use Rattle.ig_wire.specs.declared.hello_reply.HelloReply.{HelloReply}
use Rattle.ig_wire.specs.declared.hello_reply.HelloReply.TheVariants.{Accepted, Refused}
use Rattle.ig_wire.specs.Versions.{highest_version, has_flags}
use Rattle.ig_wire.specs.Greets.{greeting}
use Rattle.ig_wire.specs.HelloFaults.{fault_text}
use Rattle.ig_wire.specs.HelloReplies.{hello_reply_bytes}
use Rattle.ig_parts.specs.ServedMap.{node_id}
use Rattle.ig_deals.specs.declared.cfg.SessionCfg.{SessionCfg}

-- how a hello is answered: it is accepted, at a version, or refused
abbrev pub Greeting : Type 0
Greeting = Result Hello HelloFault

unfoldable pub greeting_of : List ℕ → Greeting
greeting_of hello = greeting highest_version hello

-- from 1.4.0 on the reply names the node
abbrev pub named_node : SessionCfg → Version → Option NodeId
named_node cfg v = if has_flags v then Some (node_id cfg.node) else None

-- the reply to an accepted hello; or the highest version, and why the hello is refused
abbrev pub hello_reply : SessionCfg → Greeting → HelloReply
hello_reply cfg (Ok hello) = Accepted (named_node cfg hello.version)
hello_reply cfg (Err fault) = Refused highest_version (fault_text fault) None

abbrev pub hello_frame : SessionCfg → List ℕ → List ℕ
hello_frame cfg hello = Frame (hello_reply_bytes (hello_reply cfg (greeting_of hello)))
