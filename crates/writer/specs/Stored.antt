-- What the writer's answer says.
-- Assumes nothing.
use Rattle.std.specs.Prelude.{ℕ, List, Result, Ok, Err}
use Rattle.model.specs.Answers.{Stored, done, refusal}
use Rattle.writer.specs.declared.NoRoom.{NoRoom}

-- 01: "Fields not named in a row are 0, finals included"
unfoldable pub stored_of : Result ℕ NoRoom → List ℕ → Stored
stored_of (Ok n) buffer = record { answer = done n; buffer = buffer }
stored_of (Err e) buffer = record { answer = refusal 6 0; buffer = buffer }
