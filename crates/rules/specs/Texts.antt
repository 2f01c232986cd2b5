-- The bytes that texts may have, by the enum that the code passes, and the arrays of options that are whole.
use Rattle.std.specs.Prelude.{ℕ, ◌<◌, ◌≡◌, Bool, List, length, get_or}
use Rattle.rules.specs.declared.Charset.{Charset}
use Rattle.rules.specs.declared.Charset.TheVariants.{Name, Graphic, Printable, Entry}
use Rattle.machine.specs.declared.Choice.{Choice}
use Rattle.machine.specs.Sheet.{name_byte, graphic, printable, no_choice}
use Rattle.machine.specs.Declined.{entry_byte}

-- whether a text may have a byte
abbrev pub in_charset : Charset → ℕ → Bool
in_charset Name b = name_byte b
in_charset Graphic b = graphic b
in_charset Printable b = printable b
in_charset Entry b = entry_byte b

-- the text of each option has the 16 bytes of its array
abbrev pub Whole : List Choice → Type 0
Whole os = (k : ℕ) → k < 8 → length (get_or os k no_choice).text ≡ 16
