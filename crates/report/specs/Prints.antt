-- What the function that writes a whole listing promises.
use Rattle.std.specs.Prelude.{ℕ, ◌≡◌, List}
use Rattle.rules.specs.Answer.{Outcome}
use Rattle.text.specs.Puts.{Puts}
use Rattle.report.specs.Listing.{text_of}

-- an outcome's image and buffer stand, and the text of its listing was put over a text
pub record Prints (o : Outcome) (image records before after : List ℕ) (size : ℕ) : Type 0 where
  pub image-is : image ≡ o.image
  pub records_is : records ≡ o.buffer
  pub puts : Puts (text_of o) before 0 after size
