-- A planned insertion in the words of the tree: the entry that stands for a new one. Assumes nothing.
use Rattle.std.specs.Prelude.{List, ℕ}
use Rattle.codes.specs.Code.{IsCode}
use Rattle.codes.specs.Spread.{digits_of}
use Rattle.trees.specs.Labelled.{Name as TreeName, Entry as TreeEntry}
use Rattle.registers.specs.declared.reading.Sound.{Sound}
use Rattle.registers.specs.declared.entry.Name.{Name}
use Rattle.registers.specs.declared.entry.Entry.{Entry}

-- the bytes that a sound register is lent in
abbrev pub bytes_of : Sound → List ℕ
bytes_of s = s.reading.bytes.now

abbrev pub name_of : Name → TreeName
name_of n = record { identity = n.identity; tag = n.tag }

abbrev pub entry_of : Entry → TreeEntry TreeName
entry_of u = record { name = name_of u.name; start = digits_of u.start; end = digits_of u.end; parent = digits_of u.parent }

-- the three codes of a label
abbrev pub AreCodes : Entry → Type 0
AreCodes u = IsCode (digits_of u.start) × IsCode (digits_of u.end) × IsCode (digits_of u.parent)
