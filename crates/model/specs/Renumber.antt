-- The renumbering rule (01, "Renumbering labels"): threads by the permutation q, addresses by r.
-- Assumes nothing.
use Rattle.std.specs.Prelude.{ℕ, Bool, cond, ◌&&◌, List, [], map, get_or}
use Rattle.finite.specs.Lists.{table}
use Rattle.permutation.specs.Permutation.{image, inverse, fits}
use Rattle.model.specs.Case.{Case, Event, bare}

-- what stands at label x of j moves to the label to which q sends x
unfoldable pub moved : {A : Type 0} → (q j : ℕ) → A → List A → List A
moved q j d l = table 0 j (λ y. get_or l (image (inverse q) y) d)

-- 01: "rewrites thread and address fields"
unfoldable pub relabel : (q r : ℕ) → Event → Event
relabel q r e = record {
  kind = e.kind;
  thread = image q e.thread;
  address = cond (bare e.kind) e.address (image r e.address);
  value = e.value;
}

-- 01: "moves initial values, write orders, thread orders .. to their new labels. Event numbers, listing and name stay"
unfoldable pub renumber : (q r : ℕ) → Case → Case
renumber q r c = record {
  edition = c.edition;
  n = c.n;
  m = c.m;
  k = c.k;
  initials = moved r c.m 0 c.initials;
  events = map (relabel q r) c.events;
  dependencies = c.dependencies;
  writes = moved r c.m [] c.writes;
  orders = moved q c.n [] c.orders;
  name = c.name;
}

-- q maps the case's threads onto themselves, and r its addresses; else 5
unfoldable pub fitting : (q r : ℕ) → Case → Bool
fitting q r c = fits q c.n && fits r c.m
