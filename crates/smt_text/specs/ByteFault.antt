-- The faults that bytes can have as a script.
use Rattle.std.specs.Prelude.{Option, Some, None}
use Rattle.smt_text.specs.declared.token.Place.{Place}
use Rattle.smt_text.specs.declared.byte_fault.ByteFault.{ByteFault}
use Rattle.smt_text.specs.declared.byte_fault.ByteFault.TheVariants.{BadByte, Unclosed, Stray, TooDeep, TooLong}
use Rattle.smt_text.specs.declared.fault.TextFault.{TextFault}
use Rattle.smt_text.specs.declared.fault.TextFault.TheVariants as fault

-- where a fault is
abbrev pub place_of : ByteFault → Place
place_of (BadByte place) = place
place_of (Unclosed place) = place
place_of (Stray place) = place
place_of (TooDeep place) = place
place_of (TooLong place) = place

-- a fault that stands whatever bytes come after: each but that of a command which is still open
abbrev pub IsLasting : ByteFault → Type 0
IsLasting (BadByte place) = Unit {0}
IsLasting (Unclosed place) = ⊥
IsLasting (Stray place) = Unit {0}
IsLasting (TooDeep place) = Unit {0}
IsLasting (TooLong place) = Unit {0}

-- the same as a reader answers it
abbrev pub text_fault : ByteFault → TextFault
text_fault (BadByte place) = fault.BadByte place
text_fault (Unclosed place) = fault.Unclosed place
text_fault (Stray place) = fault.Stray place
text_fault (TooDeep place) = fault.TooDeep place
text_fault (TooLong place) = fault.TooLong place

-- the fault of the bytes that a reader answers, where it is one
abbrev pub in_bytes : TextFault → Option ByteFault
in_bytes (fault.BadByte place) = Some (BadByte place)
in_bytes (fault.Unclosed place) = Some (Unclosed place)
in_bytes (fault.Stray place) = Some (Stray place)
in_bytes (fault.TooDeep place) = Some (TooDeep place)
in_bytes (fault.TooLong place) = Some (TooLong place)
in_bytes fault.ReadFault = None
in_bytes fault.Memory = None
