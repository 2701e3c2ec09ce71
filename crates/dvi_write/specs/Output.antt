-- Bytes that are counted, and kept where they are wanted.
use Rattle.std.specs.Prelude.{ℕ, ◌+◌, Bool, List, ◌++◌, length, if◌then◌else◌}

pub record Output : Type 0 where
  pub kept : Bool
  pub length : ℕ
  pub bytes : List ℕ

-- more bytes
unfoldable pub grown : Output → List ℕ → Output
grown out more = record {
  kept = out.kept;
  length = out.length + length more;
  bytes = (if out.kept then out.bytes ++ more else out.bytes);
}
