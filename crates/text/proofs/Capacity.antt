-- How many bytes a draft holds.
use Rattle.std.specs.Prelude.{ℕ}

abbrev pub capacity : ℕ
capacity = 4096
