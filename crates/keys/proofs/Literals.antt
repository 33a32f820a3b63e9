-- Notation for the worked rows: settings, keys, commands. docs/EXAMPLES.md numbers the rows.
use Rattle.std.specs.Prelude.{ℕ, List, [], ◌∷◌, Some, None}
use Rattle.keys.specs.declared.command.Command.{Command}
use Rattle.keys.specs.declared.command.Command.TheVariants.{Get, Put, Del, Scan, Wipe}
use Rattle.keys.specs.declared.settings.Settings.{Settings}

-- ---- settings

abbrev pub S : Settings
S = record { fan = 4; chain = 2; max_key = 16; max_value = 16; seg_size = 256; segments = 4 }

abbrev pub T : Settings
T = record { fan = 8; chain = 1; max_key = 16; max_value = 16; seg_size = 512; segments = 4 }

-- ---- keys: a letter is the key of that one byte

abbrev pub a : List ℕ
a = 97 ∷ []

abbrev pub b : List ℕ
b = 98 ∷ []

abbrev pub c : List ℕ
c = 99 ∷ []

abbrev pub d : List ℕ
d = 100 ∷ []

abbrev pub e : List ℕ
e = 101 ∷ []

abbrev pub f : List ℕ
f = 102 ∷ []

abbrev pub g : List ℕ
g = 103 ∷ []

abbrev pub h : List ℕ
h = 104 ∷ []

abbrev pub i : List ℕ
i = 105 ∷ []

abbrev pub j : List ℕ
j = 106 ∷ []

abbrev pub k : List ℕ
k = 107 ∷ []

abbrev pub l : List ℕ
l = 108 ∷ []

abbrev pub m : List ℕ
m = 109 ∷ []

abbrev pub n : List ℕ
n = 110 ∷ []

abbrev pub o : List ℕ
o = 111 ∷ []

abbrev pub p : List ℕ
p = 112 ∷ []

abbrev pub q : List ℕ
q = 113 ∷ []

-- the key of two letters
abbrev pub ca : List ℕ
ca = 99 ∷ 97 ∷ []

-- ---- commands

-- row 2: a key that is put, changed and deleted within one batch
abbrev pub row_2 : List (Command ℕ)
row_2 = Get a ∷ Put a (49 ∷ []) ∷ Get a ∷ Put a (50 ∷ []) ∷ Get a ∷ Del a ∷ Get a ∷ []

-- row 8: a scan sees the commands before it in the batch
abbrev pub row_8 : List (Command ℕ)
row_8 = Scan [] None 10 ∷ Del c ∷ Scan b (Some d) 10 ∷ Put ca (57 ∷ []) ∷ Scan b None 2 ∷ []

-- row 16.1: a wipe deletes both earlier pairs and pairs that were put before it in the batch
abbrev pub row_16_1 : List (Command ℕ)
row_16_1 = Put ca (57 ∷ []) ∷ Wipe b (Some d) ∷ Get ca ∷ Put c (55 ∷ []) ∷ Scan [] None 10 ∷ []
