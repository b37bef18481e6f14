-- A symmetry by its parts: whether it exchanges x and y, and which of the two it then counts from the other end. So two
-- symmetries one after another are one of the eight.
use Rattle.std.proofs.Common.{rules, ◌≡◌, ℕ, ◌-◌, ◌<◌, Bool, true, false, ◌||◌, not, cond, sym, ap, ◌∙◌, ◌==◌}
use Rattle.std.proofs.lemmas.Bool.Decides.{Decides-eqb}
use Rattle.board_symmetry.proofs.Common.{Point, exchanges, fits, point_image, empty_board, Symmetry}
use Rattle.game_rules.proofs.Boards.{on_x, on_y}
use Rattle.board_symmetry.specs.declared.symmetry.Symmetry.TheVariants.{Identity, Half, FlipX, FlipY, Quarter, ThreeQuarter, Diagonal}
use Rattle.board_symmetry.specs.declared.symmetry.Symmetry.TheVariants.{AntiDiagonal}
use Rattle.board_symmetry.proofs.Turns.{within}

-- whether x is counted from the other end
abbrev turns_x : Symmetry → Bool
turns_x Identity = false
turns_x Half = true
turns_x FlipX = true
turns_x FlipY = false
turns_x Quarter = true
turns_x ThreeQuarter = false
turns_x Diagonal = false
turns_x AntiDiagonal = true

-- whether y is
abbrev turns_y : Symmetry → Bool
turns_y Identity = false
turns_y Half = true
turns_y FlipX = false
turns_y FlipY = true
turns_y Quarter = false
turns_y ThreeQuarter = true
turns_y Diagonal = false
turns_y AntiDiagonal = true

-- the symmetry of these parts
abbrev of_parts : Bool → Bool → Bool → Symmetry
of_parts false false false = Identity
of_parts false true true = Half
of_parts false true false = FlipX
of_parts false false true = FlipY
of_parts true true false = Quarter
of_parts true false true = ThreeQuarter
of_parts true false false = Diagonal
of_parts true true true = AntiDiagonal

-- a number below n, counted from the other end or not
abbrev counted : Bool → ℕ → ℕ → ℕ
counted r n k = cond r (n - 1 - k) k

-- where the parts take a point
abbrev taken : Bool → Bool → Bool → ℕ → ℕ → Point → Point
taken e x y w h p = record { x = cond e (counted x h p.y) (counted x w p.x); y = cond e (counted y w p.x) (counted y h p.y) }

image-taken : (s : Symmetry) (w h : ℕ) (p : Point) → point_image s w h p ≡ taken (exchanges s) (turns_x s) (turns_y s) w h p
image-taken s w h p = search rules

of_parts-taken : (e x y : Bool) (w h : ℕ) (p : Point) → point_image (of_parts e x y) w h p ≡ taken e x y w h p
of_parts-taken e x y w h p = search rules

of_parts-exchanges : (e x y : Bool) → exchanges (of_parts e x y) ≡ e
of_parts-exchanges e x y = search rules

-- one or the other, and not both
abbrev either : Bool → Bool → Bool
either r q = cond r (not q) q

counted-twice : (r q : Bool) (n k : ℕ) → k < n → counted r n (counted q n k) ≡ counted (either r q) n k
counted-twice r q n k low = search rules

-- the parts of one symmetry after another
taken-square : (e f x y u v : Bool) (n : ℕ) (p : Point) → p.x < n → p.y < n
    → taken f u v n n (taken e x y n n p) ≡ taken (either f e) (either u (cond f y x)) (either v (cond f x y)) n n p
taken-square false false x y u v n p low_x low_y = λ i. record { x = counted-twice u x n p.x low_x i; y = counted-twice v y n p.y low_y i }
taken-square true false x y u v n p low_x low_y = λ i. record { x = counted-twice u x n p.y low_y i; y = counted-twice v y n p.x low_x i }
taken-square false true x y u v n p low_x low_y = λ i. record { x = counted-twice u y n p.y low_y i; y = counted-twice v x n p.x low_x i }
taken-square true true x y u v n p low_x low_y = λ i. record { x = counted-twice u y n p.x low_x i; y = counted-twice v x n p.y low_y i }

taken-then : (e f x y u v : Bool) (w h : ℕ) (p : Point) → p.x < w → p.y < h → (not e || w == h) ≡ true → (not f || w == h) ≡ true
    → taken f u v w h (taken e x y w h p) ≡ taken (either f e) (either u (cond f y x)) (either v (cond f x y)) w h p
taken-then e f x y u v w h p low_x low_y fit fits = search (rules, counted-twice, Decides-eqb, taken-square)

-- the symmetry that s and then t are
pub composed : Symmetry → Symmetry → Symmetry
composed s t = of_parts (either (exchanges t) (exchanges s))
    (either (turns_x t) (cond (exchanges t) (turns_y s) (turns_x s))) (either (turns_y t) (cond (exchanges t) (turns_x s) (turns_y s)))

pub composed-point : (s t : Symmetry) (w h : ℕ) (p : Point) → within w h p ≡ true → fits s w h ≡ true → fits t w h ≡ true
    → point_image t w h (point_image s w h p) ≡ point_image (composed s t) w h p
unfolding composed
composed-point s t w h p on fit_s fit_t =
    image-taken t w h (point_image s w h p) ∙ ap (taken (exchanges t) (turns_x t) (turns_y t) w h) (image-taken s w h p)
    ∙ taken-then (exchanges s) (exchanges t) (turns_x s) (turns_y s) (turns_x t) (turns_y t) w h p (on_x (empty_board w h) p on)
    (on_y (empty_board w h) p on) fit_s fit_t ∙ sym (of_parts-taken (either (exchanges t) (exchanges s)) _ _ w h p)

fits-either : (e f r : Bool) → (not e || r) ≡ true → (not f || r) ≡ true → (not (either f e) || r) ≡ true
fits-either e f r a b = search rules

pub composed-fits : (s t : Symmetry) (w h : ℕ) → fits s w h ≡ true → fits t w h ≡ true → fits (composed s t) w h ≡ true
unfolding composed
composed-fits s t w h fit_s fit_t = search (rules, of_parts-exchanges, fits-either)
