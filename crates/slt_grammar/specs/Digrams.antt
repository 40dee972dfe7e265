-- Digrams, where they occur, and settled grammars (Lohrey, Maneth, Mennicke: XML tree structure compression using RePair, 2013, section 3).
use Rattle.std.specs.Prelude.{◌≡◌, ◌≢◌, ℕ, suc, ◌+◌, ◌-◌, ◌*◌, ◌<◌, ◌≤◌, List, [], ◌∷◌, length, get_or, slice_get, Option, Some, None}
use Rattle.rule_arena.specs.Preorder.{parents}
use Rattle.rule_arena.specs.declared.label.Label.{Label}
use Rattle.rule_arena.specs.declared.label.Label.TheVariants.{Param}
use Rattle.slt_grammar.specs.Algebras.{ranks_of}
use Rattle.slt_grammar.specs.Bodies.{arity, real_nodes}
use Rattle.slt_grammar.specs.Grammars.{body_at, calls_of, IsSwept}
use Rattle.slt_grammar.specs.declared.digram.Digram.{Digram}
use Rattle.slt_grammar.specs.declared.rules.Rule.{Rule}

-- the labels of a body with their places
abbrev pub numbered : ℕ → List Label → List (ℕ × Label)
numbered n [] = []
numbered n (l ∷ ls) = (n, l) ∷ numbered (suc n) ls

-- the place of the parent of the node at a place, with the place under it from 1 on
abbrev pub parent_place : List ℕ → List Label → ℕ → Option (ℕ × ℕ)
parent_place ranks body p =
    get_or (parents (λ (x : ℕ × Label). arity ranks x.1) (λ (x : ℕ × Label). x.0) (None ∷ []) (numbered 0 body)) p None

-- an occurrence of a digram, by its rule and the places of its two nodes
pub record Occurrence : Type 0 where
  pub rule : ℕ
  pub upper : ℕ
  pub lower : ℕ

-- a digram occurs at a node that is no parameter, and its parent
pub record Occurs (G : List Rule) (d : Digram) (o : Occurrence) : Type 0 where
  pub child : parent_place (ranks_of G) (body_at G o.rule) o.lower ≡ Some (o.upper, d.place)
  pub above : slice_get (body_at G o.rule) o.upper ≡ Some d.upper
  pub below : slice_get (body_at G o.rule) o.lower ≡ Some d.lower
  pub real : d.lower ≢ Param

-- two occurrences in one rule share no node
pub record ShareNone (a b : Occurrence) : Type 0 where
  pub lowers : a.lower ≢ b.lower
  pub uppers : a.upper ≢ b.upper
  pub down : a.lower ≢ b.upper
  pub back : a.upper ≢ b.lower

-- two occurrences share no node
abbrev pub AreDisjoint : Occurrence → Occurrence → Type 0
AreDisjoint a b = a.rule ≡ b.rule → ShareNone a b

-- three occurrences of a digram share no node, any two of them
pub record HasThreeDisjoint (G : List Rule) (d : Digram) : Type 0 where
  pub first : Occurrence
  pub second : Occurrence
  pub third : Occurrence
  pub occurs_first : Occurs G d first
  pub occurs_second : Occurs G d second
  pub occurs_third : Occurs G d third
  pub first_second : AreDisjoint first second
  pub first_third : AreDisjoint first third
  pub second_third : AreDisjoint second third

-- how many parameters a rule for a digram would have
abbrev pub digram_rank : List Rule → Digram → ℕ
digram_rank G d = arity (ranks_of G) d.upper + arity (ranks_of G) d.lower - 1

-- a rule saves nodes: there would be more of them without it
abbrev pub Saves : List Rule → ℕ → Type 0
Saves G r = real_nodes (body_at G r) < calls_of G r * (real_nodes (body_at G r) - 1)

-- every rule but the start is called and saves nodes, and no digram of a rank within the bound has three disjoint occurrences
pub record IsSettled (G : List Rule) (bound : ℕ) : Type 0 where
  pub swept : IsSwept G
  pub rare : (d : Digram) → digram_rank G d ≤ bound → HasThreeDisjoint G d → ⊥
  pub saves : (r : ℕ) → r + 1 < length G → Saves G r
