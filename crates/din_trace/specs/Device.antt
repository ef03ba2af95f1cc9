-- What one call of a reader or writer did to its bytes, as far as they are known, and to its count
-- of failures.
use Rattle.std.specs.Prelude.{◌≡◌, ℕ, ◌+◌, ◌%◌, ◌^◌, ◌≤◌, List, length, Option, Result, IfOk, OnOk}
use Rattle.std.specs.Prelude.{OnErr}
use Rattle.std.specs.Io.KnownBytes.{ReadConsumes, Appends}
use Rattle.std.specs.Io.Buffered.{writer_buffer, writer_inner}
use Rattle.std.specs.declared.io.buffered.BufWriter.{BufWriter}
use Rattle.din_trace.specs.declared.device.FromRead.{FromRead}
use Rattle.din_trace.specs.declared.device.FromWrite.{FromWrite}

-- one more failure, counted in 64 bits: after the greatest number the count begins again at 0
abbrev pub once_more : ℕ → ℕ
once_more count = (count + 1) % 2 ^ 64

-- one call of a reader, which left this buffer: `Ok n` put the reader's next `n` bytes at the start
-- of the buffer; `Err` took no byte, and counts as one failure
pub record Reads {R E : Type 0} (remaining : R → Option (List ℕ)) (failures : R → ℕ) (old new : R)
    (result : Result ℕ E) (buffer : List ℕ) : Type 0 where
  pub bound : IfOk result (λ count. count ≤ length buffer)
  -- `Ok 0` for a buffer that is not empty means the end
  pub bytes : ReadConsumes (remaining old) (remaining new) result buffer
  pub kept : OnOk result (failures new ≡ failures old)
  pub failed : OnErr result (failures new ≡ once_more (failures old))

-- one call of a writer, or of a function that writes: `Ok` appended the text to the writer's bytes;
-- `Err` counts as one failure, and leaves open what was written
pub record Writes {W T E : Type 0} (contents : W → Option (List ℕ)) (failures : W → ℕ) (old new : W)
    (result : Result T E) (text : List ℕ) : Type 0 where
  pub ok : OnOk result (Appends (contents old) (contents new) text)
  pub kept : OnOk result (failures new ≡ failures old)
  pub failed : OnErr result (failures new ≡ once_more (failures old))

-- the bytes that a `FromRead` will still give, where they are known
unfoldable pub unread_bytes : {R : Type 0} → (R → Option (List ℕ)) → FromRead R → Option (List ℕ)
unread_bytes remaining reader = remaining reader.inner

-- how many times a `FromRead` has failed
unfoldable pub read_failures : {R : Type 0} → FromRead R → ℕ
read_failures reader = reader.failures

-- the bytes that a `FromWrite` holds, those written so far included, where they are known
unfoldable pub held_bytes : {W : Type 0} → (W → Option (List ℕ)) → FromWrite W → Option (List ℕ)
held_bytes contents writer = contents writer.inner

-- how many times a `FromWrite` has failed
unfoldable pub write_failures : {W : Type 0} → FromWrite W → ℕ
write_failures writer = writer.failures

-- the bytes that wait in the buffer of a `FromWrite` over a buffered writer
unfoldable pub waiting_bytes : {W A : Type 0} → FromWrite (BufWriter W A) → List ℕ
waiting_bytes writer = writer_buffer writer.inner

-- the bytes that the writer behind that buffer holds, where they are known
unfoldable pub behind_bytes : {W A : Type 0} → (W → Option (List ℕ)) → FromWrite (BufWriter W A)
    → Option (List ℕ)
behind_bytes contents writer = contents (writer_inner writer.inner)
