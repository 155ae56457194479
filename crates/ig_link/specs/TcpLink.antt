-- What contracts see of a link over TCP, which tells no bytes.
use Rattle.std.specs.Prelude.{ℕ, List, Option, None}
use Rattle.ig_link.specs.States.{SourceState, SinkState, untold_source, untold_sink}
use Rattle.ig_link.specs.Gathered.{Gathered, BufferFlushes, BufferWrites}
use Rattle.ig_link.specs.declared.ends.Gave.{Gave}
use Rattle.ig_link.specs.declared.tcp_link.TcpLink.{TcpLink}
use Rattle.ig_link.specs.declared.tcp_link.Wire.{Wire}
use Rattle.ig_link.specs.declared.tcp_link.Wire.TheVariants as wire

-- as a source it counts, and its reads may fail
abbrev pub tcp_source : {R : Type 0} → TcpLink R → SourceState
tcp_source link = untold_source link.read_faults link.pauses link.ended

-- as a sink it counts, and its writes may fail
abbrev pub tcp_sink : {R : Type 0} → TcpLink R → SinkState
tcp_sink link = untold_sink link.write_faults

-- the buffer in which a connection gathers what is written, if it does
abbrev pub buffer_of : Wire → Option Gathered
buffer_of (wire.Unconnected port) = None
buffer_of (wire.Connected connection) = connection.gathering
buffer_of wire.Refused = None

-- what was gathered was handed to the socket, which tells no bytes
abbrev pub WireFlushes : Wire → Wire → Type 0
WireFlushes old new = BufferFlushes None None (buffer_of old) (buffer_of new)

-- a write was gathered or written to the socket, which tells no bytes, or it failed
abbrev pub WireWrites : Gave → Wire → Wire → List ℕ → Type 0
WireWrites answer old new piece = BufferWrites answer None None (buffer_of old) (buffer_of new) piece
