-- The parts of a file are told by its bytes.
use Rattle.std.proofs.Common.{◌≡◌, inl, inr, ℕ, zero, suc, ◌+◌, ◌/◌, ◌%◌, ◌<◌, ◌≤◌, List, [], ◌∷◌, ◌++◌, length, get_or, refl, sym, ap, ◌∙◌, subst, arith, append_assoc, append-nil}
use Rattle.std.specs.Prelude.{Bool, true, false, nat_lt}
use Rattle.std.specs.List.{flat_map}
use Rattle.std.proofs.lemmas.Bool.Decides.{nat_tests}
use Rattle.rule_arena.specs.Preorder.{AreTerms}
use Rattle.rule_arena.specs.declared.label.Label.{Label}
use Rattle.rule_arena.specs.declared.label.Label.TheVariants.{Bottom, Symbol, Call, Param}
use Rattle.plain_tree.specs.declared.kind.Kind.{Kind}
use Rattle.plain_tree.specs.Tree.{kind_code, kind_code-inj}
use Rattle.slt_grammar.specs.Algebras.{ranks_of}
use Rattle.slt_grammar.specs.Bodies.{arity}
use Rattle.slt_grammar.specs.declared.rules.Rule.{Rule}
use Rattle.grammar_file.specs.Numbers.{number_bytes}
use Rattle.grammar_file.specs.FileBytes.{mark, first_mark, list_bytes, text_bytes, name_bytes, label_bytes, rule_bytes, dictionary_bytes}
use Rattle.text_list.specs.Dictionaries.{dictionary_of, first_texts, places_among}
use Rattle.text_list.proofs.DictionaryLaws.{dictionary_told}
use Rattle.slt_grammar.specs.Grammars.{IsGrammar}
use Rattle.grammar_file.specs.Forming.{IsRule, AreFormed}
use Rattle.grammar_file.specs.Laws.{EqualFilesHaveEqualParts}
use Rattle.grammar_file.proofs.Formed.{grammar-formed}
use Rattle.grammar_file.proofs.NumberLemmas.{number-one, number-next}

-- ---- what is read at the front of bytes is known by them, and so is the rest
number-told : (most a b : ℕ) (xs ys : List ℕ) (small other : Bool) → nat_lt a 128 ≡ small → nat_lt b 128 ≡ other → a < most → number_bytes a ++ xs ≡ number_bytes b ++ ys → (a ≡ b) × (xs ≡ ys)
number-told zero a b xs ys small other s o less e = absurd (omega arith)
number-told (suc most) a b xs ys true true s o less e =
    let p : a < 128 = grind (arith, nat_tests) in
    let q : b < 128 = grind (arith, nat_tests) in
    let f : a ∷ xs ≡ b ∷ ys = rw (number-one a p, number-one b q) at e in
    (cc, cc)
number-told (suc most) a b xs ys true false s o less e =
    let p : a < 128 = grind (arith, nat_tests) in
    let q : 128 ≤ b = grind (arith, nat_tests) in
    let f : a ∷ xs ≡ (128 + b % 128) ∷ (number_bytes (b / 128) ++ ys) = rw (number-one a p, number-next b q) at e in
    let g : a ≡ 128 + b % 128 = cc in
    absurd (omega arith)
number-told (suc most) a b xs ys false true s o less e =
    let p : 128 ≤ a = grind (arith, nat_tests) in
    let q : b < 128 = grind (arith, nat_tests) in
    let f : (128 + a % 128) ∷ (number_bytes (a / 128) ++ xs) ≡ b ∷ ys = rw (number-next a p, number-one b q) at e in
    let g : 128 + a % 128 ≡ b = cc in
    absurd (omega arith)
number-told (suc most) a b xs ys false false s o less e =
    let p : 128 ≤ a = grind (arith, nat_tests) in
    let q : 128 ≤ b = grind (arith, nat_tests) in
    let f : (128 + a % 128) ∷ (number_bytes (a / 128) ++ xs) ≡ (128 + b % 128) ∷ (number_bytes (b / 128) ++ ys) = rw (number-next a p, number-next b q) at e in
    let g : 128 + a % 128 ≡ 128 + b % 128 = cc in
    let rest : number_bytes (a / 128) ++ xs ≡ number_bytes (b / 128) ++ ys = cc in
    let told = number-told most (a / 128) (b / 128) xs ys (nat_lt (a / 128) 128) (nat_lt (b / 128) 128) refl refl (omega arith) rest in
    let same = told.0 in
    (omega (arith, same), told.1)

pub number-unique : (a b : ℕ) (xs ys : List ℕ) → number_bytes a ++ xs ≡ number_bytes b ++ ys → (a ≡ b) × (xs ≡ ys)
number-unique a b xs ys e = number-told (suc a) a b xs ys (nat_lt a 128) (nat_lt b 128) refl refl (omega arith) e

pub append-unique : (ps qs xs ys : List ℕ) → length ps ≡ length qs → ps ++ xs ≡ qs ++ ys → (ps ≡ qs) × (xs ≡ ys)
append-unique [] [] xs ys n e = (refl, e)
append-unique [] (q ∷ qs) xs ys n e = absurd (omega arith)
append-unique (p ∷ ps) [] xs ys n e = absurd (omega arith)
append-unique (p ∷ ps) (q ∷ qs) xs ys n e =
    let head : p ≡ q = cc in
    let tail : ps ++ xs ≡ qs ++ ys = cc in
    let told = append-unique ps qs xs ys (omega arith) tail in
    let same : ps ≡ qs = told.0 in
    (cc, told.1)

pub text-unique : (t u xs ys : List ℕ) → text_bytes t ++ xs ≡ text_bytes u ++ ys → (t ≡ u) × (xs ≡ ys)
text-unique t u xs ys e =
    let f : number_bytes (length t) ++ (t ++ xs) ≡ number_bytes (length u) ++ (u ++ ys) = sym (append_assoc (number_bytes (length t)) t xs) ∙ e ∙ append_assoc (number_bytes (length u)) u ys in
    let told = number-unique (length t) (length u) (t ++ xs) (u ++ ys) f in
    append-unique t u xs ys told.0 told.1

pub name-unique : (p q : Kind × List ℕ) (xs ys : List ℕ) → name_bytes p ++ xs ≡ name_bytes q ++ ys → (p ≡ q) × (xs ≡ ys)
name-unique (kind, name) (other, word) xs ys e =
    let code : kind_code kind ≡ kind_code other = cc in
    let rest : text_bytes name ++ xs ≡ text_bytes word ++ ys = cc in
    let told = text-unique name word xs ys rest in
    let kinds : kind ≡ other = kind_code-inj kind other code in
    let names : name ≡ word = told.0 in
    (cc, told.1)

pub label-unique : (l m : Label) (xs ys : List ℕ) → label_bytes l ++ xs ≡ label_bytes m ++ ys → (l ≡ m) × (xs ≡ ys)
label-unique Bottom Bottom xs ys e = (refl, cc)
label-unique Param Param xs ys e = (refl, cc)
label-unique (Symbol f) (Symbol g) xs ys e =
    let rest : number_bytes f ++ xs ≡ number_bytes g ++ ys = cc in
    let told = number-unique f g xs ys rest in
    (ap Symbol told.0, told.1)
label-unique (Call f) (Call g) xs ys e =
    let rest : number_bytes f ++ xs ≡ number_bytes g ++ ys = cc in
    let told = number-unique f g xs ys rest in
    (ap Call told.0, told.1)
label-unique Bottom Param xs ys e = cc
label-unique Bottom (Symbol g) xs ys e = cc
label-unique Bottom (Call g) xs ys e = cc
label-unique Param Bottom xs ys e = cc
label-unique Param (Symbol g) xs ys e = cc
label-unique Param (Call g) xs ys e = cc
label-unique (Symbol f) Bottom xs ys e = cc
label-unique (Symbol f) Param xs ys e = cc
label-unique (Symbol f) (Call g) xs ys e = cc
label-unique (Call f) Bottom xs ys e = cc
label-unique (Call f) Param xs ys e = cc
label-unique (Call f) (Symbol g) xs ys e = cc

-- ---- lists behind their counts
each-unique : {A : Type 0} (f : A → List ℕ) → ((x y : A) (xs ys : List ℕ) → f x ++ xs ≡ f y ++ ys → (x ≡ y) × (xs ≡ ys))
    → (ps qs : List A) (xs ys : List ℕ) → length ps ≡ length qs → flat_map f ps ++ xs ≡ flat_map f qs ++ ys → (ps ≡ qs) × (xs ≡ ys)
each-unique f told [] [] xs ys n e = (refl, e)
each-unique f told [] (q ∷ qs) xs ys n e = absurd (omega arith)
each-unique f told (p ∷ ps) [] xs ys n e = absurd (omega arith)
each-unique f told (p ∷ ps) (q ∷ qs) xs ys n e =
    let s = sym (append_assoc (f p) (flat_map f ps) xs) ∙ e ∙ append_assoc (f q) (flat_map f qs) ys in
    let one = told p q (flat_map f ps ++ xs) (flat_map f qs ++ ys) s in
    let others = each-unique f told ps qs xs ys (omega arith) one.1 in
    let head : p ≡ q = one.0 in
    let tail : ps ≡ qs = others.0 in
    (cc, others.1)

counted : {A : Type 0} (f : A → List ℕ) (ps qs : List A) (xs ys : List ℕ) → list_bytes f ps ++ xs ≡ list_bytes f qs ++ ys → (length ps ≡ length qs) × (flat_map f ps ++ xs ≡ flat_map f qs ++ ys)
counted f ps qs xs ys e =
    number-unique (length ps) (length qs) (flat_map f ps ++ xs) (flat_map f qs ++ ys)
    (sym (append_assoc (number_bytes (length ps)) (flat_map f ps) xs) ∙ e ∙ append_assoc (number_bytes (length qs)) (flat_map f qs) ys)

pub list-unique : {A : Type 0} (f : A → List ℕ) → ((x y : A) (xs ys : List ℕ) → f x ++ xs ≡ f y ++ ys → (x ≡ y) × (xs ≡ ys))
    → (ps qs : List A) (xs ys : List ℕ) → list_bytes f ps ++ xs ≡ list_bytes f qs ++ ys → (ps ≡ qs) × (xs ≡ ys)
list-unique f told ps qs xs ys e = let c = counted f ps qs xs ys e in each-unique f told ps qs xs ys c.0 c.1

-- ---- bodies, whose ends are known by the ranks of the rules before
body-unique : (ranks : List ℕ) (n : ℕ) (ls ms : List Label) (xs ys : List ℕ) → AreTerms (arity ranks) n ls → AreTerms (arity ranks) n ms
    → flat_map label_bytes ls ++ xs ≡ flat_map label_bytes ms ++ ys → (ls ≡ ms) × (xs ≡ ys)
body-unique ranks zero [] [] xs ys t u e = (refl, e)
body-unique ranks zero [] (m ∷ ms) xs ys t u e = absurd u
body-unique ranks zero (l ∷ ls) ms xs ys t u e = absurd t
body-unique ranks (suc n) [] ms xs ys t u e = absurd t
body-unique ranks (suc n) (l ∷ ls) [] xs ys t u e = absurd u
body-unique ranks (suc n) (l ∷ ls) (m ∷ ms) xs ys t u e =
    let s = sym (append_assoc (label_bytes l) (flat_map label_bytes ls) xs) ∙ e ∙ append_assoc (label_bytes m) (flat_map label_bytes ms) ys in
    let one = label-unique l m (flat_map label_bytes ls ++ xs) (flat_map label_bytes ms ++ ys) s in
    let head : l ≡ m = one.0 in
    let v = subst (λ k. AreTerms (arity ranks) (k + n) ms) (ap (arity ranks) (sym head)) u in
    let told = body-unique ranks (arity ranks l + n) ls ms xs ys t v one.1 in
    let tail : ls ≡ ms = told.0 in
    (cc, told.1)

rule-same : (R S : Rule) → R.rank ≡ S.rank → R.body ≡ S.body → R ≡ S
rule-same R S rank body =
    let P : ℕ → Type 0 = λ k. R ≡ record { rank = k; body = R.body } in
    let Q : List Label → Type 0 = λ b. R ≡ record { rank = S.rank; body = b } in
    subst Q body (subst P rank refl)

pub rule-unique : (before : List Rule) (R S : Rule) (xs ys : List ℕ) → IsRule before R → IsRule before S → rule_bytes R ++ xs ≡ rule_bytes S ++ ys → (R ≡ S) × (xs ≡ ys)
rule-unique before R S xs ys g h e =
    let rank : R.rank ≡ S.rank = cc in
    let rest : flat_map label_bytes R.body ++ xs ≡ flat_map label_bytes S.body ++ ys = cc in
    let told = body-unique (ranks_of before) 1 R.body S.body xs ys g.body.term h.body.term rest in
    (rule-same R S rank told.0, told.1)

rules-unique : (before Rs Ss : List Rule) (xs ys : List ℕ) → AreFormed before Rs → AreFormed before Ss → length Rs ≡ length Ss
    → flat_map rule_bytes Rs ++ xs ≡ flat_map rule_bytes Ss ++ ys → (Rs ≡ Ss) × (xs ≡ ys)
rules-unique before [] [] xs ys g h n e = (refl, e)
rules-unique before [] (S ∷ Ss) xs ys g h n e = absurd (omega arith)
rules-unique before (R ∷ Rs) [] xs ys g h n e = absurd (omega arith)
rules-unique before (R ∷ Rs) (S ∷ Ss) xs ys g h n e =
    let s = sym (append_assoc (rule_bytes R) (flat_map rule_bytes Rs) xs) ∙ e ∙ append_assoc (rule_bytes S) (flat_map rule_bytes Ss) ys in
    let one = rule-unique before R S (flat_map rule_bytes Rs ++ xs) (flat_map rule_bytes Ss ++ ys) g.0 h.0 s in
    let head : R ≡ S = one.0 in
    let later = subst (λ T. AreFormed (before ++ T ∷ []) Ss) (sym head) h.1 in
    let told = rules-unique (before ++ R ∷ []) Rs Ss xs ys g.1 later (omega arith) one.1 in
    let tail : Rs ≡ Ss = told.0 in
    (cc, told.1)

pub formed-unique : (G H : List Rule) (xs ys : List ℕ) → AreFormed [] G → AreFormed [] H → list_bytes rule_bytes G ++ xs ≡ list_bytes rule_bytes H ++ ys → (G ≡ H) × (xs ≡ ys)
formed-unique G H xs ys g h e = let c = counted rule_bytes G H xs ys e in rules-unique [] G H xs ys g h c.0 c.1

-- ---- the whole file
-- the names and rules of two files, and what is behind them
front-unique : (names others : List (Kind × List ℕ)) (G H : List Rule) (xs ys : List ℕ) → IsGrammar G → IsGrammar H
    → list_bytes name_bytes names ++ (list_bytes rule_bytes G ++ xs) ≡ list_bytes name_bytes others ++ (list_bytes rule_bytes H ++ ys) → (names ≡ others) × (G ≡ H) × (xs ≡ ys)
front-unique names others G H xs ys g h e =
    let first = list-unique name_bytes name-unique names others _ _ e in
    let second = formed-unique G H xs ys (grammar-formed G g) (grammar-formed H h) first.1 in
    (first.0, second.0, second.1)

whole-list : {A : Type 0} (f : A → List ℕ) → ((x y : A) (xs ys : List ℕ) → f x ++ xs ≡ f y ++ ys → (x ≡ y) × (xs ≡ ys)) → (ps qs : List A) → list_bytes f ps ≡ list_bytes f qs → ps ≡ qs
whole-list f told ps qs e = (list-unique f told ps qs [] [] (append-nil (list_bytes f ps) ∙ e ∙ sym (append-nil (list_bytes f qs)))).0

pub dictionary-unique : (texts values : List (List ℕ)) (xs ys : List ℕ) → dictionary_bytes (dictionary_of texts) ++ xs ≡ dictionary_bytes (dictionary_of values) ++ ys → (texts ≡ values) × (xs ≡ ys)
dictionary-unique texts values xs ys e =
    let F = first_texts texts in
    let H = first_texts values in
    let one = list-unique text_bytes text-unique F H (list_bytes number_bytes (places_among F texts) ++ xs) (list_bytes number_bytes (places_among H values) ++ ys)
    (sym (append_assoc (list_bytes text_bytes F) (list_bytes number_bytes (places_among F texts)) xs) ∙ e ∙ append_assoc (list_bytes text_bytes H) (list_bytes number_bytes (places_among H values)) ys) in
    let two = list-unique number_bytes number-unique (places_among F texts) (places_among H values) xs ys one.1 in
    (dictionary_told texts values one.0 two.0, two.1)

-- the two versions have different marks
pub apart : (xs ys : List ℕ) → mark ++ xs ≡ first_mark ++ ys → ⊥
apart xs ys e = let f : 50 ≡ 49 = ap (λ zs. get_or zs 3 0) e in omega (arith, f)

pub equal-files : EqualFilesHaveEqualParts
equal-files bytes names others G H texts values g h (inl a) (inl b) =
    let e : mark ++ (list_bytes name_bytes names ++ (list_bytes rule_bytes G ++ dictionary_bytes (dictionary_of texts))) ≡ mark ++ (list_bytes name_bytes others ++ (list_bytes rule_bytes H ++ dictionary_bytes (dictionary_of values))) = sym a ∙ b in
    let front = front-unique names others G H (dictionary_bytes (dictionary_of texts)) (dictionary_bytes (dictionary_of values)) g h (append-unique mark mark _ _ refl e).1 in
    (front.0, front.1, (dictionary-unique texts values [] [] (append-nil (dictionary_bytes (dictionary_of texts)) ∙ front.2 ∙ sym (append-nil (dictionary_bytes (dictionary_of values))))).0)
equal-files bytes names others G H texts values g h (inl a) (inr b) = absurd (apart _ _ (sym a ∙ b))
equal-files bytes names others G H texts values g h (inr a) (inl b) = absurd (apart _ _ (sym b ∙ a))
equal-files bytes names others G H texts values g h (inr a) (inr b) =
    let front = front-unique names others G H (list_bytes text_bytes texts) (list_bytes text_bytes values) g h (append-unique first_mark first_mark _ _ refl (sym a ∙ b)).1 in
    (front.0, front.1, whole-list text_bytes text-unique texts values front.2)
