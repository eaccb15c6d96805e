use Rattle.link_msg.specs.declared.shape.Shape.TheVariants as Shapes
use Rattle.link_msg.proofs.Copied.{arm_copied, bytes_copied, text_copied, u8_copied, u16_copied, u32_copied}
use Rattle.link_msg.proofs.Copied.{stats_copied, stats64_copied}
use Rattle.link_msg.proofs.shape.Shape.is_copied.Goals as goal

pub returns-in-Bytes : goal.returns-in-Bytes
returns-in-Bytes c = λ told. arm_copied c.args.self Shapes.Bytes c.in-Bytes.is bytes_copied

pub returns-in-Text : goal.returns-in-Text
returns-in-Text c = λ told. arm_copied c.args.self Shapes.Text c.in-Text.is text_copied

pub returns-in-U8 : goal.returns-in-U8
returns-in-U8 c = λ told. arm_copied c.args.self Shapes.U8 c.in-U8.is u8_copied

pub returns-in-U16 : goal.returns-in-U16
returns-in-U16 c = λ told. arm_copied c.args.self Shapes.U16 c.in-U16.is u16_copied

pub returns-in-U32 : goal.returns-in-U32
returns-in-U32 c = λ told. arm_copied c.args.self Shapes.U32 c.in-U32.is u32_copied

pub returns-in-Stats : goal.returns-in-Stats
returns-in-Stats c = λ told. arm_copied c.args.self Shapes.Stats c.in-Stats.is stats_copied

pub returns-in-Stats64 : goal.returns-in-Stats64
returns-in-Stats64 c = λ told. arm_copied c.args.self Shapes.Stats64 c.in-Stats64.is stats64_copied
