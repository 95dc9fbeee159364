-- What a handle of C owns.
use Rattle.std.specs.Prelude.{Option, Some, None}
use base.Fml.{Fml, feq}
use denote.RawPtr.{Ptr, null_ptr}
use Rattle.std.specs.Box.Ownership.{box_owns}
use Rattle.std.specs.Coded.{Coded, coded_option}
use Rattle.std.specs.Global.{Global}
use Rattle.std.specs.contracts.impls.GlobalAllocator.TheImpl.{ghosts}
use Rattle.vindaesk_c.specs.contracts.open_session.OpenSession.{the_row}

-- a pointer to the session that is open, as a box owns it, or null
abbrev pub handle_owns : Global → Ptr → Option the_row.Denot → Fml
handle_owns alloc p None = feq Ptr p null_ptr
handle_owns alloc p (Some session) = box_owns (ghosts.dealloc_token alloc) the_row p session

-- the code by which such values are compared
abbrev pub held_coded : Coded (Option the_row.Denot)
held_coded = coded_option the_row.coded
