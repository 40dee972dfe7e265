-- The labels of a body that is read.
use Rattle.std.proofs.Common.{◌≡◌, ℕ, zero, suc, ◌+◌, ◌-◌, ◌<◌, ◌≤◌, List, [], ◌∷◌, ◌++◌, length, get_or, sym, ap, subst, arith, append_assoc, append-nil, length-append}
use Rattle.std.specs.List.{flat_map}
use Rattle.rule_arena.specs.Preorder.{AreTerms}
use Rattle.rule_arena.specs.declared.label.Label.{Label}
use Rattle.rule_arena.specs.declared.label.Label.TheVariants.{Bottom, Symbol, Call, Param}
use Rattle.slt_grammar.specs.Algebras.{ranks_of}
use Rattle.slt_grammar.specs.Bodies.{arity, CallsBelow}
use Rattle.slt_grammar.specs.declared.rules.Rule.{Rule}
use Rattle.grammar_file.specs.FileBytes.{label_bytes}
use Rattle.grammar_file.specs.Files.{SymbolsBelow}
use Rattle.grammar_file.specs.Forming.{IsPlaced, IsBody}
use Rattle.grammar_file.specs.Reading.{BeginsNone}
use Rattle.grammar_file.proofs.Reading.{IsReading, reading_begins, reading_goes, reading_fails}
use Rattle.grammar_file.proofs.Unique.{label-unique}

-- behind these labels so many terms are still to come
pub record IsOpen (ranks : List ℕ) (open_terms : ℕ) (done : List Label) : Type 0 where
  pub left : (rest : List Label) → AreTerms (arity ranks) 1 (done ++ rest) → AreTerms (arity ranks) open_terms rest
  pub whole : (rest : List Label) → AreTerms (arity ranks) open_terms rest → AreTerms (arity ranks) 1 (done ++ rest)

terms-next : (ranks : List ℕ) (n : ℕ) (l : Label) (ls : List Label) → 0 < n → AreTerms (arity ranks) n (l ∷ ls) → AreTerms (arity ranks) ((n - 1) + arity ranks l) ls
terms-next ranks zero l ls some t = absurd t
terms-next ranks (suc n) l ls some t = let e : arity ranks l + n ≡ (suc n - 1) + arity ranks l = omega arith in subst (λ k. AreTerms (arity ranks) k ls) e t

terms-first : (ranks : List ℕ) (n : ℕ) (l : Label) (ls : List Label) → 0 < n → AreTerms (arity ranks) ((n - 1) + arity ranks l) ls → AreTerms (arity ranks) n (l ∷ ls)
terms-first ranks zero l ls some t = absurd (omega arith)
terms-first ranks (suc n) l ls some t = let e : (suc n - 1) + arity ranks l ≡ arity ranks l + n = omega arith in subst (λ k. AreTerms (arity ranks) k ls) e t

terms-some : (ranks : List ℕ) (n : ℕ) → 0 < n → AreTerms (arity ranks) n [] → ⊥
terms-some ranks zero some t = absurd (omega arith)
terms-some ranks (suc n) some t = t

pub label_some : (m : Label) → 0 < length (label_bytes m)
label_some Bottom = omega arith
label_some Param = omega arith
label_some (Symbol f) = omega arith
label_some (Call q) = omega arith

-- each term has a label at least, and each label a byte
terms-bytes : (ranks : List ℕ) (n : ℕ) (ls : List Label) → AreTerms (arity ranks) n ls → n ≤ length (flat_map label_bytes ls)
terms-bytes ranks zero ls t = omega arith
terms-bytes ranks (suc n) [] t = absurd t
terms-bytes ranks (suc n) (l ∷ ls) t = omega (arith, terms-bytes ranks (arity ranks l + n) ls t, label_some l, length-append (label_bytes l) (flat_map label_bytes ls))

pub arity_small : (ranks : List ℕ) → ((q : ℕ) → get_or ranks q 0 ≤ 8) → (l : Label) → arity ranks l ≤ 8
arity_small ranks small Bottom = omega arith
arity_small ranks small Param = omega arith
arity_small ranks small (Symbol f) = omega arith
arity_small ranks small (Call q) = small q

open-more : (ranks : List ℕ) (n : ℕ) (done : List Label) (l : Label) → IsOpen ranks n done → 0 < n → IsOpen ranks ((n - 1) + arity ranks l) (done ++ l ∷ [])
open-more ranks n done l h some = record {
  left = λ rest t. terms-next ranks n l rest some (h.left (l ∷ rest) (subst (AreTerms (arity ranks) 1) (append_assoc done (l ∷ []) rest) t));
  whole = λ rest t. subst (AreTerms (arity ranks) 1) (sym (append_assoc done (l ∷ []) rest)) (h.whole (l ∷ rest) (terms-first ranks n l rest some t));
}

-- ---- what labels name
calls-at : (rules : ℕ) (done : List Label) (l : Label) (ls : List Label) → CallsBelow rules (done ++ l ∷ ls) → CallsBelow rules (l ∷ ls)
calls-at rules [] l ls h = h
calls-at rules (Bottom ∷ ms) l ls h = calls-at rules ms l ls h
calls-at rules (Param ∷ ms) l ls h = calls-at rules ms l ls h
calls-at rules (Symbol f ∷ ms) l ls h = calls-at rules ms l ls h
calls-at rules (Call q ∷ ms) l ls h = calls-at rules ms l ls h.1

symbols-at : (names : ℕ) (done : List Label) (l : Label) (ls : List Label) → SymbolsBelow names (done ++ l ∷ ls) → SymbolsBelow names (l ∷ ls)
symbols-at names [] l ls h = h
symbols-at names (Bottom ∷ ms) l ls h = symbols-at names ms l ls h
symbols-at names (Param ∷ ms) l ls h = symbols-at names ms l ls h
symbols-at names (Symbol f ∷ ms) l ls h = symbols-at names ms l ls h.1
symbols-at names (Call q ∷ ms) l ls h = symbols-at names ms l ls h

placed : (names rules : ℕ) (l : Label) (ls : List Label) → CallsBelow rules (l ∷ ls) → SymbolsBelow names (l ∷ ls) → IsPlaced names rules l
placed names rules Bottom ls c s = tt
placed names rules Param ls c s = tt
placed names rules (Symbol f) ls c s = s.0
placed names rules (Call q) ls c s = c.0

calls-more : (names rules : ℕ) (done : List Label) (l : Label) → CallsBelow rules done → IsPlaced names rules l → CallsBelow rules (done ++ l ∷ [])
calls-more names rules [] Bottom h p = tt
calls-more names rules [] Param h p = tt
calls-more names rules [] (Symbol f) h p = tt
calls-more names rules [] (Call q) h p = (p, tt)
calls-more names rules (Bottom ∷ ms) l h p = calls-more names rules ms l h p
calls-more names rules (Param ∷ ms) l h p = calls-more names rules ms l h p
calls-more names rules (Symbol f ∷ ms) l h p = calls-more names rules ms l h p
calls-more names rules (Call q ∷ ms) l h p = (h.0, calls-more names rules ms l h.1 p)

symbols-more : (names rules : ℕ) (done : List Label) (l : Label) → SymbolsBelow names done → IsPlaced names rules l → SymbolsBelow names (done ++ l ∷ [])
symbols-more names rules [] Bottom h p = tt
symbols-more names rules [] Param h p = tt
symbols-more names rules [] (Symbol f) h p = (p, tt)
symbols-more names rules [] (Call q) h p = tt
symbols-more names rules (Bottom ∷ ms) l h p = symbols-more names rules ms l h p
symbols-more names rules (Param ∷ ms) l h p = symbols-more names rules ms l h p
symbols-more names rules (Symbol f ∷ ms) l h p = (h.0, symbols-more names rules ms l h.1 p)
symbols-more names rules (Call q ∷ ms) l h p = symbols-more names rules ms l h p

-- ---- a body that is read
abbrev pub IsNamedBody : ℕ → List Rule → List Label → Type 0
IsNamedBody names before body = IsBody before body × SymbolsBelow names body

pub record IsReadingBody (names : ℕ) (before : List Rule) (start : List ℕ) (done : List Label) (open_terms : ℕ) (left : List ℕ) : Type 0 where
  pub reading : IsReading (IsNamedBody names before) label_bytes start done left
  pub unfinished : IsOpen (ranks_of before) open_terms done
  pub earlier : CallsBelow (length before) done
  pub named : SymbolsBelow names done

module _ (names : ℕ) (before : List Rule) (start : List ℕ) where
  pub body_begins : IsReadingBody names before start [] 1 start
  body_begins = record {
    reading = reading_begins (IsNamedBody names before) label_bytes start;
    unfinished = record { left = λ rest t. t; whole = λ rest t. t };
    earlier = tt;
    named = tt;
  }

  module _ (done : List Label) (n : ℕ) (left : List ℕ) (h : IsReadingBody names before start done n left) where
    -- a term that is still to come has a label
    ends-not : 0 < n → IsNamedBody names before done → ⊥
    ends-not some body = terms-some (ranks_of before) n some (h.unfinished.left [] (subst (AreTerms (arity (ranks_of before)) 1) (sym (append-nil done)) body.0.term))

    pub body_goes : (new : List ℕ) (l : Label) (kids : ℕ) → 0 < n → IsPlaced names (length before) l → left ≡ label_bytes l ++ new → kids ≡ arity (ranks_of before) l
        → IsReadingBody names before start (done ++ l ∷ []) ((n - 1) + kids) new
    body_goes new l kids some place e k = record {
      reading = reading_goes (IsNamedBody names before) label_bytes start done left new l h.reading e (ends-not some) (λ y rest more s is. label-unique l y new more is);
      unfinished = subst (λ m. IsOpen (ranks_of before) ((n - 1) + m) (done ++ l ∷ [])) (sym k) (open-more (ranks_of before) n done l h.unfinished some);
      earlier = calls-more names (length before) done l h.earlier place;
      named = symbols-more names (length before) done l h.named place;
    }

    -- no label comes next
    pub body_breaks : 0 < n → BeginsNone (IsPlaced names (length before)) label_bytes left → BeginsNone (IsNamedBody names before) (flat_map label_bytes) start
    body_breaks some bad =
        reading_fails (IsNamedBody names before) label_bytes start done left (IsPlaced names (length before)) h.reading (ends-not some)
        (λ y rest s. placed names (length before) y rest (calls-at (length before) done y rest s.0.earlier) (symbols-at names done y rest s.1)) bad

    -- too few bytes are left
    pub body_is_cut : length left < n → BeginsNone (IsNamedBody names before) (flat_map label_bytes) start
    body_is_cut few body more s e =
        let t = h.reading.told body more s e in
        let terms = h.unfinished.left t.0 (subst (AreTerms (arity (ranks_of before)) 1) t.1 s.0.term) in
        omega (arith, terms-bytes (ranks_of before) n t.0 terms, ap length t.2, length-append (flat_map label_bytes t.0) more)

    pub body_ends : n ≡ 0 → IsNamedBody names before done × (start ≡ flat_map label_bytes done ++ left)
    body_ends none =
        let last : AreTerms (arity (ranks_of before)) n [] = subst (λ m. AreTerms (arity (ranks_of before)) m []) (sym none) tt in
        let term = subst (AreTerms (arity (ranks_of before)) 1) (append-nil done) (h.unfinished.whole [] last) in
        ((record { term = term; earlier = h.earlier }, h.named), h.reading.shape)
