-- What is printed of the faults of ELF files: numbers in decimal.
use Rattle.std.specs.Prelude.{ℕ, List, ◌++◌, codes}
use Rattle.std.specs.Fmt.{decimal}
use Rattle.elf_file.specs.declared.fault.ElfField.{ElfField}
use Rattle.elf_file.specs.declared.fault.ElfField.TheVariants.{Class, Encoding, Version, FileType, Machine, Entry, Flags, PhEntSize, FileSize}
use Rattle.elf_file.specs.declared.fault.ElfFault.{ElfFault}
use Rattle.elf_file.specs.declared.fault.ElfFault.TheVariants.{Short, NotElf, NotThis, OutsideRam, Clash, Memory}

abbrev pub elf_field_name : ElfField → List ℕ
elf_field_name Class = codes "class"
elf_field_name Encoding = codes "data"
elf_field_name Version = codes "version"
elf_field_name FileType = codes "type"
elf_field_name Machine = codes "machine"
elf_field_name Entry = codes "entry"
elf_field_name Flags = codes "flags"
elf_field_name PhEntSize = codes "phentsize"
elf_field_name FileSize = codes "filesz"

abbrev pub elf_message : ElfFault → List ℕ
elf_message (Short at) = codes "short at " ++ decimal at
elf_message NotElf = codes "not ELF"
elf_message (NotThis field value) = elf_field_name field ++ codes " is " ++ decimal value
elf_message (OutsideRam segment) = codes "segment " ++ decimal segment ++ codes " outside memory"
elf_message (Clash a b) = codes "segments " ++ decimal a ++ codes " and " ++ decimal b ++ codes " overlap"
elf_message Memory = codes "out of memory"
