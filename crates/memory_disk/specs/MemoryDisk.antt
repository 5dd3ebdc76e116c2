-- What a file in memory holds.
use Rattle.std.specs.Prelude.{ℕ, List}
use Rattle.memory_disk.specs.declared.MemoryDisk.{MemoryDisk}

-- its bytes, which a read returns and a crash leaves
abbrev pub bytes_of : MemoryDisk → List ℕ
bytes_of disk = disk.bytes.items
