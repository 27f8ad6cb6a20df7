-- Rule 11 asked of orders alone.
-- Assumes nothing.
use Rattle.std.specs.Prelude.{ℕ, Bool, ◌||◌, cond, List, [], ltb}
use Rattle.model.specs.Limits.{most_threads, most_events}
use Rattle.model.specs.Rules.{or_else, rule11}
use Rattle.case.specs.declared.Case.{Case as Held}
use Rattle.case.specs.Held.{case_of}

-- a struct of which only the orders of n threads over k events are asked
abbrev pub orders_alone : (n k : ℕ) (rows : List ℕ) → Held
orders_alone n k rows = record {
  edition = 0;
  threads = n;
  addresses = 0;
  events = k;
  initial = [];
  kind = [];
  thread = [];
  address = [];
  value = [];
  dependencies = 0;
  class = [];
  from = [];
  to = [];
  writes = [];
  rows = rows;
  name = [];
  namelength = 0;
}

-- more threads or events than a case may have
abbrev pub too_many : (n k : ℕ) → Bool
too_many n k = ltb most_threads n || ltb most_events k

-- 3 for more threads or events than a case may have, 11 where the model's rule 11 is broken, else 0; no threads, or no events, are 0
unfoldable pub rule11_answer : (n k : ℕ) (rows : List ℕ) → ℕ
rule11_answer n k rows = cond (too_many n k) 3 (or_else (rule11 (case_of (orders_alone n k rows))) 11 0)
