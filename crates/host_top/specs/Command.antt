-- The words that the program takes, and what they name.
use Rattle.std.specs.Prelude.{◌≡◌, ℕ, ◌⊎◌, ⊤, true, false, List, [], ◌∷◌, Option, option_map, codes}
use Rattle.host_top.specs.declared.command.Asked.{Asked}
use Rattle.host_top.specs.declared.command.Command.{Command}
use Rattle.host_top.specs.declared.command.Command.TheVariants.{Run, Make, Explain, Print, Help, Disturb, Serve, Show, Frames}
use Rattle.host_top.specs.declared.command.Keyword.{Keyword}
use Rattle.host_top.specs.declared.command.Keyword.TheVariants as keyword
use Rattle.host_top.specs.declared.command.MakeCommand.{MakeCommand}
use Rattle.host_top.specs.declared.command.RunCommand.{RunCommand}
use Rattle.host_top.specs.declared.disturb_command.DisturbCommand.{DisturbCommand}
use Rattle.host_top.specs.declared.capture_command.CaptureCommand.{CaptureCommand}
use Rattle.host_top.specs.Disturb.{WritesDisturb, IsDisturbable}
use Rattle.host_top.specs.Explain.{WritesCapture, IsReadable}
use Rattle.host_top.specs.MakeWords.{WritesMake, run_of_make}
use Rattle.host_top.specs.RunWords.{WritesRun, IsRunnable}
use Rattle.host_top.specs.Serve.{WritesServe, IsServable}
use Rattle.host_top.specs.declared.serve_command.ServeCommand.{ServeCommand}
use Rattle.host_top.specs.declared.show_command.ShowCommand.{ShowCommand}
use Rattle.host_top.specs.Show.{WritesShow, IsShowable}

-- a word that asks how the program is used
abbrev pub IsHelpWord : List ℕ → Type 0
IsHelpWord word = (word ≡ codes "help") ⊎ ((word ≡ codes "--help") ⊎ (word ≡ codes "-h"))

-- the first word of a command
abbrev pub IsKeyword : List ℕ → Keyword → Type 0
IsKeyword word keyword.Run = word ≡ codes "run"
IsKeyword word keyword.Make = word ≡ codes "make"
IsKeyword word keyword.Explain = word ≡ codes "explain"
IsKeyword word keyword.Print = word ≡ codes "print"
IsKeyword word keyword.Help = IsHelpWord word
IsKeyword word keyword.Disturb = word ≡ codes "disturb"
IsKeyword word keyword.Serve = word ≡ codes "serve"
IsKeyword word keyword.Show = word ≡ codes "show"
IsKeyword word keyword.Frames = word ≡ codes "frames"

-- what the words behind the first one say that the command is, by what the first one asks for
abbrev pub WritesAs : Keyword → List (List ℕ) → Command → Type 0
WritesAs keyword.Run words command = (run : RunCommand) × (command ≡ Run run) × WritesRun words run
WritesAs keyword.Make words command = (make : MakeCommand) × (command ≡ Make make) × WritesMake words make
WritesAs keyword.Explain words command = (capture : CaptureCommand) × (command ≡ Explain capture) × WritesCapture words capture
WritesAs keyword.Print words command = (capture : CaptureCommand) × (command ≡ Print capture) × WritesCapture words capture
WritesAs keyword.Help words command = (command ≡ Help) × (words ≡ [])
WritesAs keyword.Disturb words command = (disturb : DisturbCommand) × (command ≡ Disturb disturb) × WritesDisturb words disturb
WritesAs keyword.Serve words command = (serve : ServeCommand) × (command ≡ Serve serve) × WritesServe words serve
WritesAs keyword.Show words command = (show : ShowCommand) × (command ≡ Show show) × WritesShow words show
WritesAs keyword.Frames words command = (frames : ShowCommand) × (command ≡ Frames frames) × WritesShow words frames

-- the words name the command
pub record NameWork (words : List (List ℕ)) (command : Command) : Type 0 where
  pub keyword : Keyword
  pub word : List ℕ
  pub behind : List (List ℕ)
  pub are : words ≡ word ∷ behind
  pub asks : IsKeyword word keyword
  pub writes : WritesAs keyword behind command

-- the commands whose rows can be printed as they come
abbrev pub CanBeLive : Command → Type 0
CanBeLive (Run run) = ⊤
CanBeLive (Make make) = ⊥
CanBeLive (Explain capture) = ⊥
CanBeLive (Print capture) = ⊥
CanBeLive Help = ⊥
CanBeLive (Disturb disturb) = ⊤
CanBeLive (Serve serve) = ⊤
CanBeLive (Show show) = ⊥
CanBeLive (Frames frames) = ⊥

-- the words name such a command
pub record NameLiveWork (words : List (List ℕ)) (command : Command) : Type 0 where
  pub can : CanBeLive command
  pub work : NameWork words command

-- the words are `live` and those that name such a command
pub record NameLive (words : List (List ℕ)) (command : Command) : Type 0 where
  pub behind : List (List ℕ)
  pub are : words ≡ codes "live" ∷ behind
  pub live : NameLiveWork behind command

-- the words name the command, and say that it is live or do not
abbrev pub Names : List (List ℕ) → Command → Type 0
Names words command = NameWork words command ⊎ NameLive words command

-- which of the two they do
abbrev pub AreNamed : List (List ℕ) → Asked → Type 0
AreNamed words asked =
    ((asked.is_live ≡ false) × NameWork words asked.command)
    ⊎ ((asked.is_live ≡ true) × NameLive words asked.command)

-- the command that is asked for
abbrev pub command_asked : Option Asked → Option Command
command_asked asked = option_map (λ (asked : Asked). asked.command) asked

-- the words that the program takes: those that name a command
abbrev pub IsTaken : List (List ℕ) → Type 0
IsTaken words = (command : Command) × Names words command

-- no words name two commands
abbrev pub NamesOne : Type 0
NamesOne = (words : List (List ℕ)) (one other : Command) → Names words one → Names words other → one ≡ other

-- what a command relies on
abbrev pub IsCommand : Command → Type 0
IsCommand (Run run) = IsRunnable run
IsCommand (Make make) = IsRunnable (run_of_make make)
IsCommand (Explain capture) = IsReadable capture
IsCommand (Print capture) = IsReadable capture
IsCommand Help = ⊤
IsCommand (Disturb disturb) = IsDisturbable disturb
IsCommand (Serve serve) = IsServable serve
IsCommand (Show show) = IsShowable show
IsCommand (Frames frames) = IsShowable frames
