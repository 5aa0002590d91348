-- The number and the values that an answer stands for: a call answers `Ok` with its values, or `Err` with a refusal.
-- Assumes nothing.
use Rattle.std.specs.Prelude.{ℕ, ◌<◌, ◌≡◌, Bool, false, Result, Ok, Err}
use Rattle.rules.specs.declared.Refusal.{Refusal}
use Rattle.rules.specs.declared.Refusal.TheVariants.{Shape, TooMany, Damaged, InvalidOperation, OutOfOrderOperation, Full, OperationNotFound, NotInitialized, NoRoom, Clash, BadLog}
use Rattle.rules.specs.declared.Kind.{Kind}
use Rattle.rules.specs.declared.Kind.TheVariants.{Add, Remove, Update}

-- the refusal's number in the table
abbrev pub code : Refusal → ℕ
code Shape = 1
code TooMany = 2
code Damaged = 3
code InvalidOperation = 4
code OutOfOrderOperation = 5
code Full = 6
code OperationNotFound = 7
code NotInitialized = 8
code NoRoom = 9
code Clash = 10
code BadLog = 11

-- the number that is returned: 0 is done
abbrev pub number_of : {A : Type 0} → Result A Refusal → ℕ
number_of (Ok a) = 0
number_of (Err r) = code r

-- the count or number that is answered; a refusal answers zero
abbrev pub value_of : Result ℕ Refusal → ℕ
value_of (Ok n) = n
value_of (Err r) = 0

-- whether yes is answered; a refusal answers no
abbrev pub yes_of : Result Bool Refusal → Bool
yes_of (Ok b) = b
yes_of (Err r) = false

-- the number of a kind: 0 add, 1 remove, 2 update
abbrev pub kind_code : Kind → ℕ
kind_code Add = 0
kind_code Remove = 1
kind_code Update = 2

-- the kind of a number; above 2 there is none, and that is Shape
abbrev pub Decodes : ℕ → Result Kind Refusal → Type 0
Decodes n (Ok k) = kind_code k ≡ n
Decodes n (Err r) = (r ≡ Shape) × (2 < n)
