-- What is gathered before it is written.
use Rattle.std.proofs.Common.{◌≡◌, ℕ, List, [], ◌∷◌, ◌++◌, Option, Result, Ok, Err, refl, sym, ap, ◌∙◌, subst, append_assoc, append-nil}
use Rattle.std.specs.Prelude.{OnOk, codes, decimal}
use Rattle.std.specs.List.{flat_map}
use Rattle.std.proofs.lemmas.Grind.{flat_map-append}
use Rattle.plain_tree.specs.declared.kind.Kind.{Kind}
use Rattle.tree_outside.specs.Outside.{Gets, GetsFront, Writes}
use Rattle.store_core.specs.Printed.{Gathers, Passes}
use Rattle.store_core.specs.Texts.{kind_word, node_line}
use Rattle.tree_outside.proofs.Sinks.{Gets-append, GetsFront-after, GetsFront-first}

-- bytes that pass, and then others
pub passes-after : {E : Type 0} (a b c : Option (List ℕ)) (old x mid y new : List ℕ) (u : Unit {0}) (r : Result (Unit {0}) E)
    → Passes {E = E} a b (old ++ x) (Ok u) mid → Passes b c (mid ++ y) r new → Passes a c (old ++ (x ++ y)) r new
passes-after a b c old x mid y new u (Ok v) p q =
    (p.0 ++ q.0, Gets-append a b c p.0 q.0 p.1 q.1, sym (append_assoc old x y) ∙ (ap (λ zs. zs ++ y) p.2 ∙ (append_assoc p.0 mid y ∙ (ap (λ zs. p.0 ++ zs) q.2 ∙ sym (append_assoc p.0 q.0 new)))))
passes-after a b c old x mid y new u (Err e) p q =
    let all : p.0 ++ (mid ++ y) ≡ old ++ (x ++ y) = sym (append_assoc p.0 mid y) ∙ (ap (λ zs. zs ++ y) (sym p.2) ∙ append_assoc old x y) in
    subst (λ (zs : List ℕ). GetsFront a c zs) all (GetsFront-after a b c p.0 (mid ++ y) p.1 q)

-- bytes that are written behind those that were held
pub passes-written : {E : Type 0} (a b c : Option (List ℕ)) (held bytes none : List ℕ) (r : Result (Unit {0}) E) → Gets a b held → none ≡ [] → Writes b c r bytes → Passes a c (held ++ bytes) r none
passes-written a b c held bytes none (Ok u) g e w = (held ++ bytes, Gets-append a b c held bytes g w, sym (append-nil (held ++ bytes)) ∙ ap (λ zs. (held ++ bytes) ++ zs) (sym e))
passes-written a b c held bytes none (Err e) g h w = GetsFront-after a b c held bytes g w

-- three texts, one after another, that are a line
pub passes-three : {E : Type 0} (a b c d : Option (List ℕ)) (held front h name i last j line : List ℕ) (u v : Unit {0}) (r : Result (Unit {0}) E) → front ++ (name ++ last) ≡ line
    → (got : List ℕ) × Gets a b got × (held ++ front ≡ got ++ h) → (got : List ℕ) × Gets b c got × (h ++ name ≡ got ++ i) → Passes c d (i ++ last) r j → Passes a d (held ++ line) r j
passes-three a b c d held front h name i last j line u v r is p q w =
    subst (λ (zs : List ℕ). Passes a d (held ++ zs) r j) is (passes-after a b d held front h (name ++ last) j u r p (passes-after b c d h name i last j v r q w))

pub stops-first : (a b : Option (List ℕ)) (held front behind line : List ℕ) → front ++ behind ≡ line → GetsFront a b (held ++ front) → GetsFront a b (held ++ line)
stops-first a b held front behind line is w =
    subst (λ (zs : List ℕ). GetsFront a b zs) (append_assoc held front behind ∙ ap (λ zs. held ++ zs) is) (GetsFront-first a b (held ++ front) behind w)

pub stops-second : (a b c : Option (List ℕ)) (held front h name last line : List ℕ) → front ++ (name ++ last) ≡ line → (got : List ℕ) × Gets a b got × (held ++ front ≡ got ++ h) → GetsFront b c (h ++ name) → GetsFront a c (held ++ line)
stops-second a b c held front h name last line is p w =
    let both : p.0 ++ (h ++ name) ≡ held ++ (front ++ name) = sym (append_assoc p.0 h name) ∙ (ap (λ zs. zs ++ name) (sym p.2) ∙ append_assoc held front name) in
    let front_got : GetsFront a c (held ++ (front ++ name)) = subst (λ (zs : List ℕ). GetsFront a c zs) both (GetsFront-after a b c p.0 (h ++ name) p.1 w) in
    stops-first a c held (front ++ name) last line (append_assoc front name last ∙ is) front_got

-- what stands before a name, and the line
pub line-of : (number : ℕ) (kind : Kind) (name none digits blank all word front : List ℕ) → none ≡ [] → digits ≡ none ++ decimal number → blank ≡ digits ++ codes " " → all ≡ blank ++ word → word ≡ kind_word kind → front ≡ all
    → front ++ (name ++ codes "\n") ≡ node_line number (kind, name)
line-of number kind name none digits blank all word front n d b a w f =
    let s : List ℕ = decimal number ++ codes " " in
    let same : front ≡ s ++ kind_word kind =
    f ∙ (a ∙ (ap (λ zs. zs ++ word) (b ∙ ap (λ zs. zs ++ codes " ") (d ∙ ap (λ zs. zs ++ decimal number) n)) ∙ ap (λ zs. s ++ zs) w)) in
    ap (λ zs. zs ++ (name ++ codes "\n")) same ∙ sym (append_assoc (s ++ kind_word kind) name (codes "\n"))

module _ {A : Type 0} (print : A → List ℕ) (items : List A) where
  -- what is printed of the items before those that are left was gathered
  pub record IsGathering (before now : Option (List ℕ)) (left : List A) (held : List ℕ) : Type 0 where
    pub first : List A
    pub whole : items ≡ first ++ left
    pub got : List ℕ
    pub gets : Gets before now got
    pub bytes : flat_map print first ≡ got ++ held

  pub gathering-begins : (now : Option (List ℕ)) (held : List ℕ) → held ≡ [] → Gets now now [] → IsGathering now now items held
  gathering-begins now held none gets = record { first = []; whole = refl; got = []; gets = gets; bytes = sym none }

  bytes_next : (got held new more : List ℕ) (first : List A) (item : A) → flat_map print first ≡ got ++ held → held ++ print item ≡ more ++ new → flat_map print (first ++ item ∷ []) ≡ (got ++ more) ++ new
  bytes_next got held new more first item bytes e =
      flat_map-append print first (item ∷ []) ∙ (ap (λ zs. zs ++ flat_map print (item ∷ [])) bytes ∙ (append_assoc got held (flat_map print (item ∷ [])) ∙ (ap (λ zs. got ++ zs) (one ∙ e) ∙ sym (append_assoc got more new))))
    where
      one : held ++ flat_map print (item ∷ []) ≡ held ++ print item
      one = ap (λ zs. held ++ zs) (append-nil (print item))

  pub gathering-goes : (before mid now : Option (List ℕ)) (old new : List A) (held held' : List ℕ) (item : A) → IsGathering before mid old held → old ≡ item ∷ new
      → (more : List ℕ) × Gets mid now more × (held ++ print item ≡ more ++ held') → IsGathering before now new held'
  gathering-goes before mid now old new held held' item g next p = record {
    first = g.first ++ item ∷ [];
    whole = g.whole ∙ (ap (λ zs. g.first ++ zs) next ∙ sym (append_assoc g.first (item ∷ []) new));
    got = g.got ++ p.0;
    gets = Gets-append before mid now g.got p.0 g.gets p.1;
    bytes = bytes_next g.got held held' p.0 g.first item g.bytes p.2;
  }

  -- a sink that failed got a front of all
  pub gathering-fails : (before mid now : Option (List ℕ)) (old new : List A) (held : List ℕ) (item : A) → IsGathering before mid old held → old ≡ item ∷ new
      → GetsFront mid now (held ++ print item) → GetsFront before now (flat_map print items)
  gathering-fails before mid now old new held item g next front =
      let bytes : List ℕ = print item in
      let rest : List ℕ = flat_map print new in
      let all : flat_map print items ≡ (g.got ++ (held ++ bytes)) ++ rest =
      ap (flat_map print) (g.whole ∙ ap (λ zs. g.first ++ zs) next) ∙ (flat_map-append print g.first (item ∷ new) ∙ (ap (λ zs. zs ++ (bytes ++ rest)) g.bytes
      ∙ (sym (append_assoc (g.got ++ held) bytes rest) ∙ ap (λ zs. zs ++ rest) (append_assoc g.got held bytes)))) in
      subst (λ (zs : List ℕ). GetsFront before now zs) (sym all) (GetsFront-first before now (g.got ++ (held ++ bytes)) rest (GetsFront-after before mid now g.got (held ++ bytes) g.gets front))

  pub gathering-ends : {E : Type 0} (before now : Option (List ℕ)) (left : List A) (held : List ℕ) (done : Result (Unit {0}) E) → IsGathering before now left held → OnOk done (left ≡ []) → Gathers before now print items done held
  gathering-ends before now left held done g all = record { first = g.first; later = left; whole = g.whole; all = all; got = g.got; gets = g.gets; bytes = g.bytes }

  -- what is held is written
  pub gathered : {E : Type 0} (before mid now : Option (List ℕ)) (done : Result (Unit {0}) E) (held : List ℕ) → Gathers before mid print items done held → Gets mid now held → Gathers before now print items done []
  gathered before mid now done held g w = record {
    first = g.first;
    later = g.later;
    whole = g.whole;
    all = g.all;
    got = g.got ++ held;
    gets = Gets-append before mid now g.got held g.gets w;
    bytes = g.bytes ∙ sym (append-nil (g.got ++ held));
  }

  pub gathered_fails : {E : Type 0} (before mid now : Option (List ℕ)) (done : Result (Unit {0}) E) (held : List ℕ) → Gathers before mid print items done held → GetsFront mid now held → GetsFront before now (flat_map print items)
  gathered_fails before mid now done held g front =
      let all : flat_map print items ≡ (g.got ++ held) ++ flat_map print g.later = ap (flat_map print) g.whole ∙ (flat_map-append print g.first g.later ∙ ap (λ zs. zs ++ flat_map print g.later) g.bytes) in
      subst (λ (zs : List ℕ). GetsFront before now zs) (sym all) (GetsFront-first before now (g.got ++ held) (flat_map print g.later) (GetsFront-after before mid now g.got held g.gets front))

  -- where all was printed, that is all bytes
  pub all-printed : {E : Type 0} (before now : Option (List ℕ)) (done : Result (Unit {0}) E) (u : Unit {0}) → done ≡ Ok u → (g : Gathers before now print items done []) → flat_map print items ≡ g.got
  all-printed before now done u is g =
      let all : g.later ≡ [] = rw is at g.all in
      ap (flat_map print) (g.whole ∙ (ap (λ xs. g.first ++ xs) all ∙ append-nil g.first)) ∙ (g.bytes ∙ append-nil g.got)
