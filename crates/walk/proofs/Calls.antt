-- What walks by hand share: a call whose callee says its result and the last values outright.
-- Assumes nothing.
use mathlib.Core.Path.{◌≡◌, sym, ap, subst}
use Prim.Native.Nat.{ℕ, zero, suc}
use mathlib.Core.List.{List, [], ◌∷◌}
use seplogic.Ra.Ura.{Ura}
use mir.Syntax.{Callee, Opd as Operand, Place, Body, seq, call}
use mir.Val.{Val}
use base.Logic.{ent, id⊢, mono_r}
use base.Fml.{Lft, Share, ftrue, flft}
use prog.Wp.{Env, Calls, Loops}
use types.Logic.{Logic}
use sound.WpLaws.{FmC}
use contract.Monad.{fact}
use contract.Lifetimes.{Lfts, Shares, toks}
use types.Kit.{Item, ‵, raw, some, later, ◌⊛◌, mean, Post, Goal, Soaks, runs, lands, settles, Seq, Step, step, ◌$◌, use1, await, split, join, pick, move}
use types.Run.{Opds}
use denote.RattleType.{RattleType}
use denote.Laws.{Is, Tells, shows}
use denote.Signature.{type_at}
use denote.Steps.{only, facts, heard, nothing}
use denote.Triple.Entry.{Res, alive}
use denote.Triple.Statement.{Contract, Triple}
use denote.Triple.Spec.{triple_of}
use denote.Triple.Clauses.{Ended, Clauses, Lasts, lasts, at_exit, closing}
use denote.Triple.Call.{calls_at, calls_at_last}

-- the tokens of a call, as an item
abbrev pub tokens : {M : Type 1} (𝓤 : Ura M) → (n : ℕ) → Lfts n → Shares n → Item 𝓤
tokens 𝓤 zero κs qs = ‵ ftrue
tokens 𝓤 (suc n) κs qs = ‵ (flft κs.0 qs.0) ⊛ tokens 𝓤 n κs.1 qs.1

module _ {M : Type 1} {𝓤 : Ura M} (𝓛 : Logic 𝓤) where
  open 𝓛 use {A}

  tokens_in : (n : ℕ) (κs : Lfts n) (qs : Shares n) → ent 𝓤 (toks 𝓛 n κs qs) (mean 𝓛 (tokens 𝓤 n κs qs))
  tokens_in zero κs qs = id⊢ 𝓤 _
  tokens_in (suc n) κs qs = mono_r 𝓤 (A.lft κs.0 qs.0) (tokens_in n κs.1 qs.1)

  -- a function's contract, as a caller cites it
  abbrev pub Of : (T : Ended) → Clauses 𝓤 T → Contract 𝓤
  Of T c = triple_of 𝓛 T.signature (closing 𝓛 T c)

-- a call of a function whose contract says the result and the last values outright
pub record Told {M : Type 1} {𝓤 : Ura M} (𝓛 : Logic 𝓤) : Type 2 where
  pub fn : Ended
  pub clauses : Clauses 𝓤 fn
  -- what the callee's triple binds outside
  pub bound : (Of 𝓛 fn clauses).Ghost
  -- the result, and the last values
  pub result : Res fn.signature bound.0.0
  pub ends : Lasts fn bound.0.0 bound.0.3
  -- the fact that the callee ensures, and that it says them
  pub φ : Res fn.signature bound.0.0 → Lasts fn bound.0.0 bound.0.3 → Type 0
  pub ensures : (r : Res fn.signature bound.0.0) (ws : Lasts fn bound.0.0 bound.0.3) → ent 𝓤 ((clauses bound.0.0 bound.0.3).ensures bound.1 r (at_exit fn bound.0.0 bound.0.3 ws)) (fact 𝓤 (φ r ws))
  pub is : (r : Res fn.signature bound.0.0) (ws : Lasts fn bound.0.0 bound.0.3) → φ r ws → (r ≡ result) × (ws ≡ ends)
  -- the result's one machine value
  pub val : Res fn.signature bound.0.0 → Val
  pub tells : Tells (type_at fn.signature.result bound.0.0) (Is (type_at fn.signature.result bound.0.0)) (λ r. val r ∷ [])

-- the same of a function that changes nothing, whose contract is `r ≡ r₀`
abbrev pub plainly : {M : Type 1} {𝓤 : Ura M} {𝓛 : Logic 𝓤} (T : Ended) (c : Clauses 𝓤 T) (y : (Of 𝓛 T c).Ghost) (r₀ : Res T.signature y.0.0) (ws₀ : Lasts T y.0.0 y.0.3)
    → ((r : Res T.signature y.0.0) (ws : Lasts T y.0.0 y.0.3) → ent 𝓤 ((c y.0.0 y.0.3).ensures y.1 r (at_exit T y.0.0 y.0.3 ws)) (fact 𝓤 (r ≡ r₀))) → ((ws : Lasts T y.0.0 y.0.3) → ws ≡ ws₀)
    → (val : Res T.signature y.0.0 → Val) → Tells (type_at T.signature.result y.0.0) (Is (type_at T.signature.result y.0.0)) (λ r. val r ∷ []) → Told 𝓛
plainly T c y r₀ ws₀ ens only_one val tl = record { fn = T; clauses = c; bound = y; result = r₀; ends = ws₀; φ = λ r ws. r ≡ r₀; ensures = ens; is = λ r ws e. (e, only_one ws); val = val; tells = tl }

module _ {M : Type 1} {𝓤 : Ura M} {𝓛 : Logic 𝓤} (s : Told 𝓛) where
  open 𝓛 use {H}

  abbrev pub agreed : Contract 𝓤
  agreed = Of 𝓛 s.fn s.clauses

  abbrev pub asked : Item 𝓤
  asked = raw (agreed.pre s.bound)

  abbrev R : RattleType
  R = type_at s.fn.signature.result s.bound.0.0

  abbrev Ws : Type 0
  Ws = Lasts s.fn s.bound.0.0 s.bound.0.3

  -- the result's one machine value
  abbrev pub value : Val
  value = s.val s.result

  -- what its holder knows
  abbrev pub Known : Type 0
  Known = Is R s.result (value ∷ [])

  abbrev held : Item 𝓤
  held = tokens 𝓤 s.fn.signature.lifetimes s.bound.0.0 s.bound.0.1

  abbrev said : Ws → Item 𝓤
  said ws = ‵ (lasts s.fn s.bound.0.0 s.bound.0.3 ws)

  -- what the caller has of the call
  abbrev pub After : List (Item 𝓤) → List (Item 𝓤)
  After Γ = held ∷ said s.ends ∷ Γ

  settled : {K : Type 0} {Γ : List (Item 𝓤)} (G : Val → Goal 𝓤 H) (v : Val) → (Known → Seq K 𝓛 (After Γ) (G value)) → (r : R.Denot) (ws : Ws) → (r ≡ s.result) × (ws ≡ s.ends) → Is R r (v ∷ [])
      → Seq K 𝓛 (held ∷ said ws ∷ Γ) (G v)
  settled {K} {Γ} G v k r ws e own =
      subst (λ (us : Ws). Seq K 𝓛 (held ∷ said us ∷ Γ) (G v)) (sym e.1)
      (subst (λ (u : Val). Is R s.result (u ∷ []) → Seq K 𝓛 (After Γ) (G u)) (sym (ap only (s.tells s.result (v ∷ []) (subst (λ (x : R.Denot). Is R x (v ∷ [])) e.0 own)))) k (subst (λ (x : R.Denot). Is R x (v ∷ [])) e.0 own))

  answers : {K : Type 0} {Γ : List (Item 𝓤)} → K → (G : Val → Goal 𝓤 H) → ((v : Val) → Soaks (G v)) → (Known → Seq K 𝓛 (After Γ) (G value)) → (v : Val) → Seq K 𝓛 (raw (agreed.post s.bound v) ∷ Γ) (G v)
  answers {K} {Γ} t G z k v =
      use1 𝓛 (later (some (λ (r : R.Denot). (raw (alive 𝓛 s.fn.signature s.bound.0.0 s.bound.0.1) ⊛ ‵ (R.own_val r (v ∷ [])))
      ⊛ some (λ (ws : Ws). said ws ⊛ raw ((s.clauses s.bound.0.0 s.bound.0.3).ensures s.bound.1 r (at_exit s.fn s.bound.0.0 s.bound.0.3 ws)))))) (id⊢ 𝓤 _) $
      await t (z v) $ pick t (λ r. split t $ move t (1 ∷ []) $ pick t (λ ws. split t $ move t (1 ∷ []) $ use1 𝓛 (raw (fact 𝓤 (s.φ r ws))) (s.ensures r ws) $ heard t (s.φ r ws) (λ f.
      move t (1 ∷ []) $ split t $ move t (1 ∷ []) $ facts t R (Is R) (shows 𝓛 R) r (v ∷ []) (λ own.
      use1 𝓛 held (tokens_in 𝓛 s.fn.signature.lifetimes s.bound.0.0 s.bound.0.1) $ settled G v k r ws (s.is r ws f) own))))

module _ {M : Type 1} {𝓤 : Ura M} {𝓛 : Logic 𝓤} {K : Type 0} {Γ : List (Item 𝓤)} {E : Env 𝓤 𝓛.H} {C : Calls 𝓤 𝓛.H} {Λ : Loops 𝓤 𝓛.H} {q : Post 𝓤 𝓛.H} {f : Callee} {xs : List Operand} {d : Place} where
  open 𝓛 use {H}

  pub calls_told : K → FmC 𝓤 H 𝓛.laws C → {rest : Body} (s : Told 𝓛) → Triple 𝓤 (C f) (agreed s) → Opds K 𝓛 (asked s ∷ Γ) E xs ((agreed s).args s.bound)
      → (Known s → Seq K 𝓛 (After s Γ) (lands C Λ E d (value s) rest q)) → Seq K 𝓛 (asked s ∷ Γ) (runs C Λ E (seq (call f xs d) rest) q)
  calls_told t fm {rest} s met os k = calls_at t fm (agreed s) met s.bound os (answers s t (λ v. lands C Λ E d v rest q) (λ v. tt) k)

  -- a call that ends a turn
  pub calls_told_last : K → FmC 𝓤 H 𝓛.laws C → (s : Told 𝓛) → Triple 𝓤 (C f) (agreed s) → Opds K 𝓛 (asked s ∷ Γ) E xs ((agreed s).args s.bound)
      → (Known s → Seq K 𝓛 (After s Γ) (settles E d (value s) q)) → Seq K 𝓛 (asked s ∷ Γ) (runs C Λ E (call f xs d) q)
  calls_told_last t fm s met os k = calls_at_last t fm (agreed s) met s.bound os (answers s t (λ v. settles E d v q) (λ v. tt) k)

-- ---- the tokens before what the arguments own, as a function of one lifetime or of two asks for them
module _ {M : Type 1} {𝓤 : Ura M} {𝓛 : Logic 𝓤} {K : Type 0} {Γ : List (Item 𝓤)} {G : Goal 𝓤 𝓛.H} {o : Item 𝓤} {κ : Lft} {q : Share} where
  pub one_token : K → Step K 𝓛 (((‵ (flft κ q) ⊛ ‵ ftrue) ⊛ o) ∷ Γ) G (‵ (flft κ q) ∷ o ∷ Γ) G
  one_token t = step (λ s. nothing t $ move t (1 ∷ 0 ∷ []) $ join t $ join t $ s)

  pub two_tokens : K → {κ' : Lft} {q' : Share} → Step K 𝓛 (((‵ (flft κ q) ⊛ (‵ (flft κ' q') ⊛ ‵ ftrue)) ⊛ o) ∷ Γ) G ((‵ (flft κ q) ⊛ ‵ (flft κ' q')) ∷ o ∷ Γ) G
  two_tokens t = step (λ s. split t $ move t (1 ∷ []) $ nothing t $ move t (1 ∷ 0 ∷ []) $ join t $ move t (1 ∷ 0 ∷ []) $ join t $ join t $ s)
