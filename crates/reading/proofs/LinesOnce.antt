-- A good line says one thing only, and has no fault; a faulty line has one fault.
use Rattle.std.proofs.Common.{◌≡◌, ℕ, ◌≤◌, true, List, [], ◌∷◌, None, decimal, sym, refl, ap, ◌∙◌, subst, inl, inr, arith}
use Rattle.std.proofs.lemmas.Bool.{both_ways}
use Rattle.parts.specs.declared.bar.Bar.{Bar}
use Rattle.parts.specs.declared.bolt.Bolt.{Bolt}
use Rattle.parts.specs.declared.hole.Hole.{Hole}
use Rattle.parts.specs.declared.load.LoadKind.{LoadKind}
use Rattle.parts.specs.Ranges.{bar_ranges, bolt_ranges}
use Rattle.parts.specs.Sizes.{size_name}
use Rattle.parts.specs.Steels.{steel_name}
use Rattle.sections.specs.Texts.{Load, bar_words, bolt_words, hole_words, load_words}
use Rattle.sheet.specs.Account.{Account}
use Rattle.sheet.specs.Calls.{put_fault, hole_at}
use Rattle.sheet.specs.Law.{bearable}
use Rattle.text.specs.Words.{Begins}
use Rattle.text.proofs.Figures.{number_once, signed_once}
use Rattle.reading.specs.Beginnings.{Fresh}
use Rattle.reading.specs.LineFaults.{HeaderFault, BarFault, BoltFault, HoleFault, LoadFault, Names}
use Rattle.reading.specs.Shapes.{Short, BarShape, BoltShape, HoleShape, LoadShape}
use Rattle.reading.specs.declared.fault.Cause.{Cause}
use Rattle.reading.specs.declared.fault.Cause.TheVariants.{Sheet}
use Rattle.reading.proofs.Letters.{names_once}
use Rattle.reading.proofs.Shaped.{header_pieces, bar_pieces, bolt_pieces, hole_pieces, load_pieces}
use Rattle.reading.proofs.Spelling.{steel_once, size_once, short_bar, short_bolt, nine_load}

-- ---- the first line of a section

pub header_good : {text rest name : List ℕ} (n least most : ℕ) {c : Cause} → Begins text (decimal n ∷ name ∷ []) rest → Short n → least ≤ n → n ≤ most → HeaderFault name least most text c → ⊥
header_good {text} {rest} {name} n least most h s low high (inl p) = p.1 (record { count = n; name = name; rest = rest; begins = h; short = s })
header_good {text} {rest} {name} n least most h s low high (inr p) =
    let f = p.1.0 in
    let e = header_pieces h f in
    let m = number_once n f.count s f.short e.0 in
    p.1.1 (sym e.1) (omega arith) (omega arith)

pub header_fault : {text : List ℕ} (name : List ℕ) (least most : ℕ) {c d : Cause} → HeaderFault name least most text c → HeaderFault name least most text d → c ≡ d
header_fault name least most (inl p) (inl q) = p.0 ∙ sym q.0
header_fault name least most (inl p) (inr q) = absurd (p.1 q.1.0)
header_fault name least most (inr p) (inl q) = absurd (q.1 p.1.0)
header_fault name least most (inr p) (inr q) = p.0 ∙ sym q.0

-- ---- the bar

same_bar : (b d : Bar) → b.width ≡ d.width → b.thickness ≡ d.thickness → b.steel ≡ d.steel → b.edge ≡ d.edge → b ≡ d
same_bar b d p q s t = λ i. record { width = p i; thickness = q i; steel = s i; edge = t i }

abbrev bar_shaped : {text rest : List ℕ} (b : Bar) → bar_ranges b ≡ true → Begins text (bar_words b) rest → BarShape text
bar_shaped {text} {rest} b r h = record { width = b.width; thickness = b.thickness; steel = steel_name b.steel; edge = b.edge; rest = rest; begins = h; short = short_bar b r }

-- two shapes of one text
bar_same : {text : List ℕ} (f g : BarShape text) → (f.width ≡ g.width) × (f.thickness ≡ g.thickness) × (f.steel ≡ g.steel) × (f.edge ≡ g.edge)
bar_same f g =
    let e = bar_pieces f.begins g in
    (number_once _ _ f.short.0 g.short.0 e.0, number_once _ _ f.short.1 g.short.1 e.1, e.2, number_once _ _ f.short.2 g.short.2 e.3)

pub bar_once : {text r s : List ℕ} (b d : Bar) → bar_ranges b ≡ true → bar_ranges d ≡ true → Begins text (bar_words b) r → Begins text (bar_words d) s → b ≡ d
bar_once b d p q h k =
    let e = bar_same (bar_shaped b p h) (bar_shaped d q k) in
    same_bar b d e.0 e.1 (steel_once _ _ e.2) e.3

pub bar_good : {text rest : List ℕ} (b : Bar) {c : Cause} → bar_ranges b ≡ true → Begins text (bar_words b) rest → BarFault text c → ⊥
bar_good b r h (inl p) = p.1 (bar_shaped b r h)
bar_good b r h (inr (inl p)) = p.1.1 b.steel (bar_same p.1.0 (bar_shaped b r h)).2
bar_good b r h (inr (inr p)) =
    let e = bar_same p.1.0 (bar_shaped b r h) in
    both_ways (bar_ranges b) (sym (λ i. bar_ranges (record { width = e.0 i; thickness = e.1 i; steel = p.1.1; edge = e.3 i })) ∙ p.1.3) r

pub bar_fault : {text : List ℕ} {c d : Cause} → BarFault text c → BarFault text d → c ≡ d
bar_fault (inl p) (inl q) = p.0 ∙ sym q.0
bar_fault (inl p) (inr (inl q)) = absurd (p.1 q.1.0)
bar_fault (inl p) (inr (inr q)) = absurd (p.1 q.1.0)
bar_fault (inr (inl p)) (inl q) = absurd (q.1 p.1.0)
bar_fault (inr (inl p)) (inr (inl q)) = p.0 ∙ sym q.0
bar_fault (inr (inl p)) (inr (inr q)) = absurd (p.1.1 q.1.1 ((bar_same p.1.0 q.1.0).2 ∙ q.1.2))
bar_fault (inr (inr p)) (inl q) = absurd (q.1 p.1.0)
bar_fault (inr (inr p)) (inr (inl q)) = absurd (q.1.1 p.1.1 ((bar_same q.1.0 p.1.0).2 ∙ p.1.2))
bar_fault (inr (inr p)) (inr (inr q)) = p.0 ∙ sym q.0

-- ---- the bolt

same_bolt : (t u : Bolt) → t.size ≡ u.size → t.stress.0 ≡ u.stress.0 → t.planes ≡ u.planes → t ≡ u
same_bolt t u p q s = λ i. record { size = p i; stress = record { 0 = q i }; planes = s i }

abbrev bolt_shaped : {text rest : List ℕ} (t : Bolt) → bolt_ranges t ≡ true → Begins text (bolt_words t) rest → BoltShape text
bolt_shaped {text} {rest} t r h = record { size = size_name t.size; stress = t.stress.0; planes = t.planes; rest = rest; begins = h; short = short_bolt t r }

bolt_same : {text : List ℕ} (f g : BoltShape text) → (f.size ≡ g.size) × (f.stress ≡ g.stress) × (f.planes ≡ g.planes)
bolt_same f g =
    let e = bolt_pieces f.begins g in
    (e.0, number_once _ _ f.short.0 g.short.0 e.1, number_once _ _ f.short.1 g.short.1 e.2)

pub bolt_once : {text r s : List ℕ} (t u : Bolt) → bolt_ranges t ≡ true → bolt_ranges u ≡ true → Begins text (bolt_words t) r → Begins text (bolt_words u) s → t ≡ u
bolt_once t u p q h k =
    let e = bolt_same (bolt_shaped t p h) (bolt_shaped u q k) in
    same_bolt t u (size_once _ _ e.0) e.1 e.2

pub bolt_good : {text rest : List ℕ} (t : Bolt) {c : Cause} → bolt_ranges t ≡ true → Begins text (bolt_words t) rest → BoltFault text c → ⊥
bolt_good t r h (inl p) = p.1 (bolt_shaped t r h)
bolt_good t r h (inr (inl p)) = p.1.1 t.size (bolt_same p.1.0 (bolt_shaped t r h)).0
bolt_good t r h (inr (inr p)) =
    let e = bolt_same p.1.0 (bolt_shaped t r h) in
    both_ways (bolt_ranges t) (sym (λ i. bolt_ranges (record { size = p.1.1; stress = record { 0 = e.1 i }; planes = e.2 i })) ∙ p.1.3) r

pub bolt_fault : {text : List ℕ} {c d : Cause} → BoltFault text c → BoltFault text d → c ≡ d
bolt_fault (inl p) (inl q) = p.0 ∙ sym q.0
bolt_fault (inl p) (inr (inl q)) = absurd (p.1 q.1.0)
bolt_fault (inl p) (inr (inr q)) = absurd (p.1 q.1.0)
bolt_fault (inr (inl p)) (inl q) = absurd (q.1 p.1.0)
bolt_fault (inr (inl p)) (inr (inl q)) = p.0 ∙ sym q.0
bolt_fault (inr (inl p)) (inr (inr q)) = absurd (p.1.1 q.1.1 ((bolt_same p.1.0 q.1.0).0 ∙ q.1.2))
bolt_fault (inr (inr p)) (inl q) = absurd (q.1 p.1.0)
bolt_fault (inr (inr p)) (inr (inl q)) = absurd (q.1.1 p.1.1 ((bolt_same q.1.0 p.1.0).0 ∙ p.1.2))
bolt_fault (inr (inr p)) (inr (inr q)) = p.0 ∙ sym q.0

-- ---- a hole

abbrev pub ShortHole : Hole → Type 0
ShortHole h = Short h.x × Short h.y × Short h.diameter

abbrev hole_shaped : {text rest : List ℕ} (h : Hole) → ShortHole h → Begins text (hole_words h) rest → HoleShape text
hole_shaped {text} {rest} h s b = record { x = h.x; y = h.y; diameter = h.diameter; rest = rest; begins = b; short = s }

hole_same : {text : List ℕ} (f g : HoleShape text) → hole_at f.x f.y f.diameter ≡ hole_at g.x g.y g.diameter
hole_same f g =
    let e = hole_pieces f.begins g in
    let x = number_once _ _ f.short.0 g.short.0 e.0 in
    let y = number_once _ _ f.short.1 g.short.1 e.1 in
    let d = number_once _ _ f.short.2 g.short.2 e.2 in
    λ i. hole_at (x i) (y i) (d i)

pub hole_once : {text r s : List ℕ} (h k : Hole) → ShortHole h → ShortHole k → Begins text (hole_words h) r → Begins text (hole_words k) s → h ≡ k
hole_once h k p q a b = hole_same (hole_shaped h p a) (hole_shaped k q b)

pub hole_good : {text rest : List ℕ} (a : Account) (h : Hole) {c : Cause} → ShortHole h → put_fault a h ≡ None → Begins text (hole_words h) rest → HoleFault a text c → ⊥
hole_good a h s none b (inl p) = p.1 (hole_shaped h s b)
hole_good a h s none b (inr p) =
    let e = sym p.3 ∙ ap (put_fault a) (hole_same p.0 (hole_shaped h s b)) ∙ none in
    let z : ◌≡◌ {A = ℕ} 0 1 = cc in
    omega arith

pub hole_fault : {text : List ℕ} (a : Account) {c d : Cause} → HoleFault a text c → HoleFault a text d → c ≡ d
hole_fault a (inl p) (inl q) = p.0 ∙ sym q.0
hole_fault a (inl p) (inr q) = absurd (p.1 q.0)
hole_fault a (inr p) (inl q) = absurd (q.1 p.0)
hole_fault a {c} {d} (inr p) (inr q) =
    let e = sym p.3 ∙ ap (put_fault a) (hole_same p.0 q.0) ∙ q.3 in
    let f : p.1 ≡ q.1 = cc in
    p.2 ∙ ap Sheet f ∙ sym q.2

-- ---- a load

abbrev load_shaped : {text rest : List ℕ} (p : Load) → bearable p.1 ≡ true → Begins text (load_words p) rest → LoadShape text
load_shaped {text} {rest} p r h = record { name = _; value = p.1; rest = rest; begins = h; short = nine_load p.1 r }

load_same : {text : List ℕ} (f g : LoadShape text) → (f.name ≡ g.name) × (f.value ≡ g.value)
load_same f g =
    let e = load_pieces f.begins g in
    (e.0, signed_once _ _ f.short g.short e.1)

pub load_once : {text r s : List ℕ} (p q : Load) → bearable p.1 ≡ true → bearable q.1 ≡ true → Begins text (load_words p) r → Begins text (load_words q) s → p ≡ q
load_once p q b d h k =
    let e = load_same (load_shaped p b h) (load_shaped q d k) in
    let l = names_once p.0 q.0 refl e.0 in
    λ i. (l i, e.1 i)

pub load_good : {text rest : List ℕ} (ps : List Load) (p : Load) {c : Cause} → Fresh p.0 ps → bearable p.1 ≡ true → Begins text (load_words p) rest → LoadFault ps text c → ⊥
load_good ps p new b h (inl f) = f.1 (load_shaped p b h)
load_good ps p new b h (inr (inl f)) = f.1.1 p.0 (load_same f.1.0 (load_shaped p b h)).0
load_good ps p new b h (inr (inr (inl f))) =
    let k = names_once p.0 f.1.1 (load_same f.1.0 (load_shaped p b h)).0 f.1.2 in
    f.1.3 (subst (λ (j : LoadKind). Fresh j ps) k new)
load_good ps p new b h (inr (inr (inr f))) =
    both_ways (bearable p.1) (ap bearable (sym (load_same f.1.0 (load_shaped p b h)).1) ∙ f.1.4) b

-- two loads of one line
one_kind : {text : List ℕ} (f g : LoadShape text) (j k : LoadKind) → Names f.name j → Names g.name k → j ≡ k
one_kind f g j k p q = names_once j k p ((load_same f g).0 ∙ q)

pub load_fault : {text : List ℕ} (ps : List Load) {c d : Cause} → LoadFault ps text c → LoadFault ps text d → c ≡ d
load_fault ps (inl p) (inl q) = p.0 ∙ sym q.0
load_fault ps (inl p) (inr (inl q)) = absurd (p.1 q.1.0)
load_fault ps (inl p) (inr (inr (inl q))) = absurd (p.1 q.1.0)
load_fault ps (inl p) (inr (inr (inr q))) = absurd (p.1 q.1.0)
load_fault ps (inr (inl p)) (inl q) = absurd (q.1 p.1.0)
load_fault ps (inr (inl p)) (inr (inl q)) = p.0 ∙ sym q.0
load_fault ps (inr (inl p)) (inr (inr (inl q))) = absurd (p.1.1 q.1.1 ((load_same p.1.0 q.1.0).0 ∙ q.1.2))
load_fault ps (inr (inl p)) (inr (inr (inr q))) = absurd (p.1.1 q.1.1 ((load_same p.1.0 q.1.0).0 ∙ q.1.2))
load_fault ps (inr (inr (inl p))) (inl q) = absurd (q.1 p.1.0)
load_fault ps (inr (inr (inl p))) (inr (inl q)) = absurd (q.1.1 p.1.1 ((load_same q.1.0 p.1.0).0 ∙ p.1.2))
load_fault ps (inr (inr (inl p))) (inr (inr (inl q))) = p.0 ∙ sym q.0
load_fault ps (inr (inr (inl p))) (inr (inr (inr q))) =
    absurd (p.1.3 (subst (λ (j : LoadKind). Fresh j ps) (one_kind q.1.0 p.1.0 q.1.1 p.1.1 q.1.2 p.1.2) q.1.3))
load_fault ps (inr (inr (inr p))) (inl q) = absurd (q.1 p.1.0)
load_fault ps (inr (inr (inr p))) (inr (inl q)) = absurd (q.1.1 p.1.1 ((load_same q.1.0 p.1.0).0 ∙ p.1.2))
load_fault ps (inr (inr (inr p))) (inr (inr (inl q))) =
    absurd (q.1.3 (subst (λ (j : LoadKind). Fresh j ps) (one_kind p.1.0 q.1.0 p.1.1 q.1.1 p.1.2 q.1.2) p.1.3))
load_fault ps (inr (inr (inr p))) (inr (inr (inr q))) = p.0 ∙ sym q.0
