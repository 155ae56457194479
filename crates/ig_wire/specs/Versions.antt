-- The versions of the protocol.
use Rattle.std.specs.Prelude.{ℤ, pos, Bool, List, ℕ, ◌++◌, ◌&&◌, ◌||◌, int_lt, FitsSigned, if◌then◌else◌}
use Rattle.std.specs.Ordering.{int_eq}
use Rattle.std.specs.Int.{w16}
use Rattle.ig_base.specs.Numbers.{LE}
use Rattle.ig_base.specs.Frames.{Side, server, server_1_4}
use Rattle.ig_wire.specs.declared.version.Version.{Version}

-- three Int16
abbrev pub version_bytes : Version → List ℕ
version_bytes v = LE w16 v.major ++ LE w16 v.minor ++ LE w16 v.patch

-- its numbers are Int16
pub record IsVersion (v : Version) : Type 0 where
  pub major : FitsSigned w16 v.major
  pub minor : FitsSigned w16 v.minor
  pub patch : FitsSigned w16 v.patch

-- the versions that are spoken
abbrev pub version_1_0 : Version
version_1_0 = record { major = pos 1; minor = pos 0; patch = pos 0 }

abbrev pub version_1_1 : Version
version_1_1 = record { major = pos 1; minor = pos 1; patch = pos 0 }

abbrev pub version_1_4 : Version
version_1_4 = record { major = pos 1; minor = pos 4; patch = pos 0 }

-- the highest version that is spoken
abbrev pub highest_version : Version
highest_version = version_1_4

abbrev pub is_same : Version → Version → Bool
is_same a b = int_eq a.major b.major && (int_eq a.minor b.minor && int_eq a.patch b.patch)

-- whether the first is the second or an earlier one: by major number, then minor, then patch
abbrev pub is_up_to : Version → Version → Bool
is_up_to a b =
    if int_eq a.major b.major then (if int_eq a.minor b.minor then int_le a.patch b.patch
    else int_lt a.minor b.minor) else int_lt a.major b.major where
      int_le : ℤ → ℤ → Bool
      int_le x y = int_eq x y || int_lt x y

abbrev pub is_spoken : Version → Bool
is_spoken v = is_same v version_1_0 || (is_same v version_1_1 || is_same v version_1_4)

-- whether a server whose highest version is this one accepts the version
abbrev pub is_accepted : Version → Version → Bool
is_accepted highest v = is_spoken v && is_up_to v highest

-- a hello may have a login: from 1.1.0 on
abbrev pub has_login : Version → Bool
has_login v = is_up_to version_1_1 v

-- the reply to a hello names the node, and a reply's head has flags: from 1.4.0 on
abbrev pub has_flags : Version → Bool
has_flags v = is_up_to version_1_4 v

-- the least lengths of what a server of the version sends
abbrev pub server_side : Version → Side
server_side v = if has_flags v then server_1_4 else server
