-- The two numbers of link/dispenser.h: a session that is held has 160 bytes and is aligned to 8, as the kit lays structs out. Assumes nothing.
use mathlib.Core.Path.{◌≡◌, refl}
use prog.Memory.{size, align}
use Rattle.dispenser_link.proofs.held.Held.TheLaws.{mir}

pub session-size : size mir ≡ 160
session-size = refl

pub session-align : align mir ≡ 8
session-align = refl
